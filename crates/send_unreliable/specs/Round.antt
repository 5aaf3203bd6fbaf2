-- An unreliable round: it empties the queue. Document 01, "Unreliable": a message longer than the remaining allowance is dropped for good;
-- others go once. 10, 13 of the given sequence, 13 of numbers that it would need, 15. Assumes nothing.
use Rattle.std.specs.Prelude.{ℕ, zero, suc, ◌+◌, ◌-◌, ◌*◌, ◌≡◌, false, not, List, [], ◌∷◌, ◌++◌, length, ltb, leb, eqb, Result}
use Rattle.words.specs.Sizes.{SLICE_SIZE, LIMIT}
use Rattle.words.specs.Pieces.{pieces_of, piece_len_of}
use Rattle.words.specs.Choice.{pick, refusal}
use Rattle.words.specs.Lists.{reached}
use Rattle.words.specs.declared.After.{After}
use Rattle.words.specs.declared.Refusal.{Refusal}
use Rattle.channel.specs.Settings.{stores_hold_of, lane_len_of}
use Rattle.channel.specs.declared.Settings.{Settings}
use Rattle.pack.specs.Pack.{Item, Pack, pack}
use Rattle.pack.specs.Encode.{Lent, round_refusal}
use Rattle.pack.specs.Round.{Gives}
use Rattle.pack.specs.declared.Written.{Written}
use Rattle.send_unreliable.specs.declared.SendChannelUnreliable.{SendChannelUnreliable}
use Rattle.send_unreliable.specs.Sender.{empty_of, waiting, is_small, Valid}

-- what a round is given: its first sequence, the allowance and the two stores
pub record Given : Type 0 where
  pub seq : ℕ
  pub allowance : ℕ
  pub small : List ℕ
  pub lanes : List ℕ

-- ---- what goes, in the queue's order

-- what is left of the allowance; how many small and sliced messages were passed, which tells where the next one lies; the id of the next
-- sliced message that goes; and what goes
pub record Chosen : Type 0 where
  pub left : ℕ
  pub small : ℕ
  pub sliced : ℕ
  pub id : ℕ
  pub items : List Item

-- k pieces from the i-th on, of the message id of n bytes that lies at `place`
unfoldable pub pieces_from : ℕ → ℕ → ℕ → ℕ → ℕ → List Item
pieces_from id n place i zero = []
pieces_from id n place i (suc k) =
    record { num = pieces_of n; id = id; index = i; place = place + i * SLICE_SIZE; len = piece_len_of n i } ∷ pieces_from id n place (i + 1) k

abbrev pub go_small : Chosen → ℕ → Chosen
go_small c n =
    pick (ltb c.left n)
    (record { left = c.left; small = c.small + 1; sliced = c.sliced; id = c.id; items = c.items })
    (record {
      left = c.left - n;
      small = c.small + 1;
      sliced = c.sliced;
      id = c.id;
      items = c.items ++ (record { num = 0; id = 0; index = 0; place = c.small * SLICE_SIZE; len = n } ∷ []);
    })

abbrev pub go_sliced : Settings → Chosen → ℕ → Chosen
go_sliced s c n =
    pick (ltb c.left n)
    (record { left = c.left; small = c.small; sliced = c.sliced + 1; id = c.id; items = c.items })
    (record {
      left = c.left - n;
      small = c.small;
      sliced = c.sliced + 1;
      id = c.id + 1;
      items = c.items ++ pieces_from c.id n (c.sliced * lane_len_of s) 0 (pieces_of n);
    })

unfoldable pub go : Settings → Chosen → ℕ → Chosen
go s c n = pick (is_small n) (go_small c n) (go_sliced s c n)

-- nothing chosen yet
abbrev pub starting : ℕ → ℕ → Chosen
starting allowance id = record { left = allowance; small = 0; sliced = 0; id = id; items = [] }

unfoldable pub select : SendChannelUnreliable → ℕ → Chosen
select s allowance = reached (go s.settings) (starting allowance s.sliced_message_id) (waiting s)

-- ---- judged: 10, 13 of the given sequence; 13 of ids and sequences that it would need; 15

abbrev pub packs : SendChannelUnreliable → Given → List Pack
packs s g = pack false (select s g.allowance).items

abbrev pub lent : SendChannelUnreliable → Given → Lent
lent s g = record { ids = false; channel = s.channel_id; small = g.small; lanes = g.lanes }

unfoldable pub refusal_of : SendChannelUnreliable → Given → ℕ → ℕ → ℕ
refusal_of s g out table =
    refusal (
    (not (stores_hold_of s.settings (length g.small) (length g.lanes)), 10) ∷
    (leb LIMIT g.seq, 13) ∷
    (ltb LIMIT (select s g.allowance).id, 13) ∷
    (not (eqb (round_refusal (lent s g) g.seq (packs s g) out table) 0), round_refusal (lent s g) g.seq (packs s g) out table) ∷ []
    )

-- ---- what a round gives, all of it: the queue is empty afterwards; a refusal changes no state, no byte and no entry

abbrev pub Round : Type 0
Round = After (Result Written Refusal) SendChannelUnreliable

pub record RoundGives (s : SendChannelUnreliable) (g : Given) (out table out' table' : List ℕ) (r : Round) : Type 0 where
  pub went : Gives (lent s g) g.seq g.allowance (packs s g) (refusal_of s g (length out) (length table)) out table out' table' r.answer
  pub state : r.state ≡ pick (eqb (refusal_of s g (length out) (length table)) 0) (empty_of s.channel_id s.settings (select s g.allowance).id) s
  pub valid : Valid r.state
