-- The two senders of a script, as their libraries made and left them, and what each is lent. Assumes nothing.
use Rattle.std.specs.Prelude.{ℕ, ◌+◌, ◌≤◌, ◌≡◌, Bool, List, take, drop, eqb}
use Rattle.words.specs.Choice.{pick}
use Rattle.memory.specs.Sizes.{SMALL, LANES, OUT, TABLE}
use Rattle.memory.specs.Memory.{SpanGives}
use Rattle.send_reliable.specs.Sender as srv
use Rattle.send_unreliable.specs.Sender as suv
use Rattle.session_send.specs.declared.Lent.{Lent}
use Rattle.session_send.specs.declared.Parts.{Parts}
use Rattle.session_send.specs.declared.Senders.{Senders}

-- all that a sender has is lent, and no packet stands there
abbrev pub whole : Lent
whole = record { small = SMALL; lanes = LANES; out = OUT; table = TABLE; packets = 0 }

-- what one of the senders is lent
abbrev pub lent_to : Senders → Bool → Lent
lent_to s reliable = pick reliable s.sr_lent s.su_lent

-- what a call sees of the sender's memory: a digest all, any other what is lent
abbrev pub DIGEST : ℕ
DIGEST = 6

abbrev pub seen_by : Senders → Bool → ℕ → Lent
seen_by s reliable k = pick (eqb k DIGEST) whole (lent_to s reliable)

-- where the own memory of a sender begins, of which each has n: the reliable one's comes first
abbrev pub beginning : Bool → ℕ → ℕ
beginning reliable n = pick reliable 0 n

-- a sender is lent no more than its own part
pub record Own (l : Lent) : Type 0 where
  pub small : l.small ≤ SMALL
  pub lanes : l.lanes ≤ LANES
  pub out : l.out ≤ OUT
  pub table : l.table ≤ TABLE

-- the parts of the memory of all ends, of these lengths, that a call on a sender sees
pub record PartsGive (reliable : Bool) (l : Lent) (smalls all_lanes outs tables : ℕ) (p : Parts) : Type 0 where
  pub small : SpanGives (beginning reliable SMALL) l.small smalls p.small
  pub lanes : SpanGives (beginning reliable LANES) l.lanes all_lanes p.lanes
  pub out : SpanGives (beginning reliable OUT) l.out outs p.out
  pub table : SpanGives (beginning reliable TABLE) l.table tables p.table

-- both are valid, and lent their own. Shut, so that a proof that hands the senders on does not look into them
unfoldable pub Sound : Senders → Type 0
Sound s = srv.Valid s.sr × suv.Valid s.su × Own s.sr_lent × Own s.su_lent

-- a memory is as it was but for n from a place on
unfoldable pub Keeps : ℕ → ℕ → List ℕ → List ℕ → Type 0
Keeps from n before after = (take from after ≡ take from before) × (drop (from + n) after ≡ drop (from + n) before)

-- after a call the senders are sound, and no memory but what the call sees is changed
pub record CallGives (reliable : Bool) (seen : Lent) (small small' lanes lanes' out out' table table' : List ℕ) (s : Senders) : Type 0 where
  pub sound : Sound s
  pub in_small : Keeps (beginning reliable SMALL) seen.small small small'
  pub in-lanes : Keeps (beginning reliable LANES) seen.lanes lanes lanes'
  pub in-out : Keeps (beginning reliable OUT) seen.out out out'
  pub in_table : Keeps (beginning reliable TABLE) seen.table table table'
