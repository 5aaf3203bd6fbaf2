-- What a pass over falling ranges has judged. Assumes nothing.
use Prim.Native.Nat.{ℕ, ◌+◌, ◌-◌}
use mathlib.Core.Path.{◌≡◌, refl, sym, ap, ◌∙◌}
use mathlib.Core.Bool.{Bool, true, false, ◌&&◌}
use mathlib.Core.List.{List, [], ◌∷◌}
use native.Mathlib.Omega.{arith}
use native.Mathlib.Nat.{sub-zero}
use lib.Dec.{ltb}
use lib.ListN.{length, length-append}
use Rattle.std.specs.Prelude.{Option, Some}
use Rattle.words.specs.Choice.{pick}
use Rattle.words.specs.Lists.{all, reached}
use Rattle.octets.specs.Varint.{var_len}
use Rattle.octets.proofs.Back.{length-var}
use Rattle.packet_ack.specs.Ack.{Range}
use Rattle.packet_ack.specs.Write.{sayable, size_less_one, lowers_bytes}
use Rattle.packet_ack.specs.Steps.{unjudged_in, begun, stepped, judged_by, judged_next, falling_below, falling, range_len_of}
use Rattle.packet_ack.specs.declared.Judgement.{Judgement}
use Rattle.packet_ack.proofs.Falling.{whole}

-- ---- one range more, as code finds its parts

pub stepped-is : (j : Judgement) (r : Range) {s : Bool} {spare len gap apart : ℕ} → s ≡ sayable r → spare ≡ j.spare - len → len ≡ range_len_of gap r → gap ≡ apart - 1 → apart ≡ j.start - r.end
    → record { sayable = j.sayable && s; rising = j.rising && ltb r.end j.start && ltb r.start r.end; top = j.top; start = r.start; spare = spare } ≡ stepped j r
unfolding stepped
stepped-is j r a b c d e = simp (a, b, c, d, e)

-- ---- the pass is one of steps, once the highest range is judged

pub pass-steps : (j : Judgement) (rs : List Range) {top : Range} → j.top ≡ Some top → reached judged_next j rs ≡ reached stepped j rs
unfolding reached stepped
pass-steps j [] e = refl
pass-steps j (r ∷ rs) e =
    ap (λ (o : Option Range). reached judged_next (judged_by o j r) rs) e ∙ pass-steps (stepped j r) rs e

-- ---- what the pass reaches, field by field

and-two : (a b c : Bool) → pick (a && b) c false ≡ pick a (pick b c false) false
and-two true b c = refl
and-two false b c = refl

and-three : (a b c d : Bool) → pick (a && b && c) d false ≡ pick a (pick b (pick c d false) false) false
and-three true true c d = refl
and-three true false c d = refl
and-three false b c d = refl

pass-sayable : (j : Judgement) (rs : List Range) → (reached stepped j rs).sayable ≡ pick j.sayable (all sayable rs) false
unfolding reached stepped all
pass-sayable j [] = sym (whole j.sayable)
pass-sayable j (r ∷ rs) = pass-sayable (stepped j r) rs ∙ and-two j.sayable (sayable r) (all sayable rs)

pass-rising : (j : Judgement) (rs : List Range) → (reached stepped j rs).rising ≡ pick j.rising (falling_below j.start rs) false
unfolding reached stepped falling_below
pass-rising j [] = sym (whole j.rising)
pass-rising j (r ∷ rs) = pass-rising (stepped j r) rs ∙ and-three j.rising (ltb r.end j.start) (ltb r.start r.end) (falling_below r.start rs)

pass-spare : (j : Judgement) (rs : List Range) → (reached stepped j rs).spare ≡ j.spare - length (lowers_bytes j.start rs)
unfolding reached stepped lowers_bytes
pass-spare j [] = sym (sub-zero j.spare)
pass-spare j (r ∷ rs) =
    let g : ℕ = var_len (j.start - r.end - 1) in
    let z : ℕ = var_len (size_less_one r) in
    let l : ℕ = length (lowers_bytes r.start rs) in
    let e : j.spare - (g + z) - l ≡ j.spare - (g + (z + l)) = omega arith in
    pass-spare (stepped j r) rs ∙ e ∙ simp (length-append, length-var)

pass-top : (j : Judgement) (rs : List Range) → (reached stepped j rs).top ≡ j.top
unfolding reached stepped
pass-top j [] = refl
pass-top j (r ∷ rs) = pass-top (stepped j r) rs

-- the whole pass, from the highest range on
module _ (room : ℕ) (r : Range) (rs : List Range) where
  pub judged-sayable : (reached stepped (begun room r) rs).sayable ≡ all sayable (r ∷ rs)
  unfolding begun all
  judged-sayable = pass-sayable (begun room r) rs

  pub judged-rising : (reached stepped (begun room r) rs).rising ≡ falling (r ∷ rs)
  unfolding begun falling
  judged-rising = pass-rising (begun room r) rs

  pub judged-spare : (reached stepped (begun room r) rs).spare ≡ room - range_len_of (r.end - 1) r - length (lowers_bytes r.start rs)
  unfolding begun
  judged-spare = pass-spare (begun room r) rs

  pub judged-top : (reached stepped (begun room r) rs).top ≡ Some r
  unfolding begun
  judged-top = pass-top (begun room r) rs

  pub judged-steps : reached judged_next (unjudged_in room) (r ∷ rs) ≡ reached stepped (begun room r) rs
  unfolding reached begun
  judged-steps = pass-steps (begun room r) rs refl
