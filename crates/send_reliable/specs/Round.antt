-- A reliable round: select, then pack, then encode. Document 01, "Reliable round" and "Numbers a caller may see": 10, 13 of the given
-- sequence, 14, 13 of numbers that it would need, 15. Assumes nothing.
use Rattle.std.specs.Prelude.{ℕ, ◌≡◌, true, not, List, [], ◌∷◌, length, ltb, leb, eqb, Result}
use Rattle.words.specs.Sizes.{LIMIT}
use Rattle.words.specs.Choice.{pick, refusal}
use Rattle.words.specs.declared.After.{After}
use Rattle.words.specs.declared.Refusal.{Refusal}
use Rattle.channel.specs.Settings.{stores_hold_of}
use Rattle.channel.specs.declared.Settings.{Settings}
use Rattle.pack.specs.Pack.{Pack, pack}
use Rattle.pack.specs.Encode.{Lent, round_refusal}
use Rattle.pack.specs.Round.{Gives}
use Rattle.pack.specs.declared.Written.{Written}
use Rattle.send_reliable.specs.declared.SendChannelReliable.{SendChannelReliable}
use Rattle.send_reliable.specs.Sender.{Valid}
use Rattle.send_reliable.specs.Select.{Chosen, select, with_chosen}

-- what a round is given: its first sequence, the time, the allowance and the two stores
pub record Given : Type 0 where
  pub seq : ℕ
  pub now : ℕ
  pub allowance : ℕ
  pub small : List ℕ
  pub lanes : List ℕ

-- ---- judged before anything is chosen: 10, 13 of the given sequence, 14

abbrev pub entry_number : Settings → ℕ → ℕ → ℕ → ℕ → ℕ → ℕ
entry_number settings latest seq now small lanes =
    refusal (
    (not (stores_hold_of settings small lanes), 10) ∷
    (leb LIMIT seq, 13) ∷
    (ltb now latest, 14) ∷ []
    )

unfoldable pub entry_refusal : SendChannelReliable → Given → ℕ
entry_refusal s g = entry_number s.settings s.latest g.seq g.now (length g.small) (length g.lanes)

-- ---- chosen and packed

abbrev pub chosen : SendChannelReliable → Given → Chosen
chosen s g = select s g.now g.allowance

abbrev pub packs : SendChannelReliable → Given → List Pack
packs s g = pack true (chosen s g).items

abbrev pub lent : SendChannelReliable → Given → Lent
lent s g = record { ids = true; channel = s.channel_id; small = g.small; lanes = g.lanes }

-- then 13 of sequences that it would need, and 15, with `out` bytes and `table` words lent
unfoldable pub refusal_of : SendChannelReliable → Given → ℕ → ℕ → ℕ
refusal_of s g out table =
    pick (eqb (entry_refusal s g) 0) (round_refusal (lent s g) g.seq (packs s g) out table) (entry_refusal s g)

-- ---- the state afterwards: what went has its sending marked, and the time is the latest

unfoldable pub state_after : SendChannelReliable → Given → SendChannelReliable
state_after s g = with_chosen s g.now (chosen s g)

-- ---- what a round gives, all of it: a refusal changes no state, no byte and no entry

abbrev pub Round : Type 0
Round = After (Result Written Refusal) SendChannelReliable

pub record RoundGives (s : SendChannelReliable) (g : Given) (out table out' table' : List ℕ) (r : Round) : Type 0 where
  pub went : Gives (lent s g) g.seq g.allowance (packs s g) (refusal_of s g (length out) (length table)) out table out' table' r.answer
  pub state : r.state ≡ pick (eqb (refusal_of s g (length out) (length table)) 0) (state_after s g) s
  pub valid : Valid r.state
