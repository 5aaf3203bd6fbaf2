-- Laws of what a call on the wire says and leaves. Assumes nothing.
use Prim.Native.Nat.{ℕ, ◌≤◌, ◌<◌, min}
use mathlib.Core.Path.{◌≡◌, sym, ap, subst, ◌∙◌}
use mathlib.Core.Bool.{Bool, true, false}
use mathlib.Core.List.{List, [], ◌∷◌, ◌++◌}
use lib.ListN.{length, take, drop}
use Rattle.std.proofs.lemmas.List.{take_min, drop_min}
use native.Mathlib.Omega.{arith}
use lib.Dec.{leb}
use Rattle.words.specs.Choice.{refusal}
use Rattle.words.specs.Sizes.{LIMIT}
use Rattle.words.specs.Refusal.{number_of}
use Rattle.words.specs.declared.Refusal.{Refusal}
use Rattle.words.specs.declared.Refusal.TheVariants.{BadNumber}
use Rattle.words.proofs.Unique.{one-refusal}
use Rattle.octets.specs.Varint.{var_len, var_length}
use Rattle.octets.specs.Writer.{refused, put_of, outcome}
use Rattle.std.specs.Prelude.{Result, Err}
use Rattle.page.specs.Page.{Sheet, said_refusal}
use Rattle.packet.specs.declared.Packet.{Packet}
use Rattle.answers.specs.Packets.{Reads, decoded_said}
use Rattle.session_wire.specs.declared.Lent.{Lent}
use Rattle.session_wire.specs.Wire.{length_said, Decodes, PutsBy, WritesBy, OnOut, puts, writes}

-- ---- a length that is refused is a bad number

length-by : (t : Bool) (e : Refusal) (n : ℕ) → refused (number_of e) ≡ outcome (refusal ((t, 13) ∷ [])) n → e ≡ BadNumber
length-by true e n h = let g : number_of e ≡ 13 = cc in one-refusal e BadNumber g
length-by false e n h = absurd (let z : ◌≡◌ {A = ℕ} 0 1 = cc in omega arith)

length-bad : (e : Refusal) (v : ℕ) → refused (number_of e) ≡ var_length v → e ≡ BadNumber
unfolding var_length
length-bad e v h = length-by (leb LIMIT v) e (var_len v) h

pub length-refused :
    (r : Result ℕ Refusal) (e : Refusal) (v : ℕ) (sh sh' : Sheet) → r ≡ Err e → put_of r ≡ var_length v → sh' ≡ said_refusal e sh → sh' ≡ length_said (var_length v) sh
length-refused r e v sh sh' g p s =
    let h : refused (number_of e) ≡ var_length v = sym (ap put_of g) ∙ p in
    rw (← h) (s ∙ ap (λ (x : Refusal). said_refusal x sh) (length-bad e v h))

-- ---- the front of a buffer, as much as is lent or all of it

module _ (lent n : ℕ) (l : List ℕ) (e : n ≡ min lent (length l)) where
  front : take n l ≡ take lent l
  front = ap (λ (m : ℕ). take m l) e ∙ take_min lent l

  behind : (f : List ℕ) → f ++ drop n l ≡ f ++ drop lent l
  behind f = ap (λ (m : ℕ). f ++ drop m l) e ∙ ap (λ (t : List ℕ). f ++ t) (drop_min lent l)

module _ (lent n k : ℕ) (ns bs out : List ℕ) (sh sh' : Sheet) (f : List ℕ) (e : n ≡ min lent (length out)) where
  pub puts-front : k ≤ 5 → PutsBy k ns bs (take n out) sh f sh' → OnOut lent k ns bs out sh (f ++ drop n out) sh'
  puts-front h p = puts h f (behind lent n out e f) (subst (λ (l : List ℕ). PutsBy k ns bs l sh f sh') (front lent n out e) p)

  pub writes-front : 5 < k → k ≤ 10 → WritesBy k ns bs (take n out) sh f sh' → OnOut lent k ns bs out sh (f ++ drop n out) sh'
  writes-front h g p = writes h g f (behind lent n out e f) (subst (λ (l : List ℕ). WritesBy k ns bs l sh f sh') (front lent n out e) p)

pub decodes-fronts :
    (e : Lent) (m n : ℕ) (bs ms rs f g : List ℕ) (d : Result (Packet × ℕ) Refusal) (sh sh' : Sheet) → m ≡ min e.messages (length ms) → n ≡ min e.ranges (length rs)
    → Reads bs (take m ms) (take n rs) f g d → sh' ≡ decoded_said d (f ++ drop m ms) (g ++ drop n rs) sh
    → Decodes e bs ms rs sh (f ++ drop m ms) (g ++ drop n rs) sh'
decodes-fronts e m n bs ms rs f g d sh sh' p q r s =
    record {
      answer = d;
      fronts = (f, g);
      reads =
          subst (λ (l : List ℕ). Reads bs l (take e.ranges rs) f g d) (front e.messages m ms p)
          (subst (λ (l : List ℕ). Reads bs (take m ms) l f g d) (front e.ranges n rs q) r);
      messages = behind e.messages m ms p f;
      ranges = behind e.ranges n rs q g;
      said = s;
    }
