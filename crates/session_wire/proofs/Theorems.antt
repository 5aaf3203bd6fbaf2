-- The promise of `call` allows one outcome only. Assumes nothing.
use Prim.Native.Nat.{ℕ}
use mathlib.Core.Path.{◌≡◌, sym, ap, ◌∙◌}
use mathlib.Core.List.{List, ◌++◌}
use native.Mathlib.Omega.{arith}
use lib.ListN.{take, drop}
use Rattle.script.specs.Ascii.{ascii}
use Rattle.page.specs.Page.{Sheet, said}
use Rattle.octets.specs.Writer.{Outcome}
use Rattle.std.specs.Prelude.{Result}
use Rattle.words.specs.declared.Refusal.{Refusal}
use Rattle.octets.proofs.Theorems.{one-put}
use Rattle.answers.specs.Packets.{decoded_said}
use Rattle.answers.proofs.Theorems.{one-read}
use Rattle.packet.specs.declared.Packet.{Packet}
use Rattle.session_wire.specs.declared.Lent.{Lent}
use Rattle.session_wire.specs.Wire.{Decodes, Puts, OnOut, puts, writes, gets, Answers, digests, reads, others, Called, lends, answers}

module _ (o : Outcome) (bs : List ℕ) (at : ℕ) (says : Result ℕ Refusal → List ℕ → Sheet → Sheet) (out : List ℕ) (sh : Sheet) where
  one-puts : {p q : List ℕ} {a b : Sheet} → Puts o bs at says out sh p a → Puts o bs at says out sh q b → (p ≡ q) × (a ≡ b)
  one-puts {p} {q} x y =
      let same : x.answer ≡ y.answer = one-put x.answer y.answer x.tells y.tells in
      let left : p ≡ q = x.lent ∙ sym y.lent in
      (left, x.said ∙ ap (λ (r : Result ℕ Refusal). says r p sh) same ∙ ap (λ (l : List ℕ). says y.answer l sh) left ∙ sym y.said)

module _ (e : Lent) (bs ms rs : List ℕ) (sh : Sheet) where
  one-decodes : {m n r s : List ℕ} {a b : Sheet} → Decodes e bs ms rs sh m r a → Decodes e bs ms rs sh n s b → (m ≡ n) × (r ≡ s) × (a ≡ b)
  one-decodes {m} {n} {r} {s} x y =
      let one = one-read bs (take e.messages ms) (take e.ranges rs) x.answer y.answer x.reads y.reads in
      let f : m ≡ n = x.messages ∙ ap (λ (l : List ℕ). l ++ drop e.messages ms) one.1 ∙ sym y.messages in
      let g : r ≡ s = x.ranges ∙ ap (λ (l : List ℕ). l ++ drop e.ranges rs) one.2 ∙ sym y.ranges in
      (f, g, x.said ∙ ap (λ (d : Result (Packet × ℕ) Refusal). decoded_said d m r sh) one.0 ∙ ap (λ (l : List ℕ). decoded_said y.answer l r sh) f ∙ ap (λ (l : List ℕ). decoded_said y.answer n l sh) g ∙ sym y.said)

module _ (lent k : ℕ) (ns bs out : List ℕ) (sh : Sheet) where
  one_out : {p q : List ℕ} {a b : Sheet} → OnOut lent k ns bs out sh p a → OnOut lent k ns bs out sh q b → (p ≡ q) × (a ≡ b)
  one_out (puts h f e x) (puts i g d y) =
      let one = one-puts _ _ _ _ _ _ x y in
      (e ∙ ap (λ (l : List ℕ). l ++ drop lent out) one.0 ∙ sym d, one.1)
  one_out (writes h i f e x) (writes j l g d y) =
      let one = one-puts _ _ _ _ _ _ x y in
      (e ∙ ap (λ (l : List ℕ). l ++ drop lent out) one.0 ∙ sym d, one.1)
  one_out (gets h e x) (gets i d y) = (e ∙ sym d, x ∙ sym y)
  one_out (puts h f e x) (writes j l g d y) = absurd (omega arith)
  one_out (puts h f e x) (gets i d y) = absurd (omega arith)
  one_out (writes h i f e x) (puts j g d y) = absurd (omega arith)
  one_out (writes h i f e x) (gets j d y) = absurd (omega arith)
  one_out (gets h e x) (puts i f d y) = absurd (omega arith)
  one_out (gets h e x) (writes i j f d y) = absurd (omega arith)

module _ (k : ℕ) (e : Lent) (ns bs ms rs out : List ℕ) (sh : Sheet) where
  one_answer :
      {m n r s p q : List ℕ} {a b : Sheet} → Answers k e ns bs ms rs out sh m r p a → Answers k e ns bs ms rs out sh n s q b
      → (m ≡ n) × (r ≡ s) × (p ≡ q) × (a ≡ b)
  one_answer (digests h f g d x) (digests i t u v y) = (f ∙ sym t, g ∙ sym u, d ∙ sym v, x ∙ sym y)
  one_answer (reads h f x) (reads i g y) = let one = one-decodes e bs ms rs sh x y in (one.0, one.1, f ∙ sym g, one.2)
  one_answer (others h i f g x) (others j l t u y) = let one = one_out e.out k ns bs out sh x y in (f ∙ sym t, g ∙ sym u, one.0, one.1)
  one_answer (digests h f g d x) (reads i t y) = absurd (omega arith)
  one_answer (digests h f g d x) (others i j t u y) = absurd (i h)
  one_answer (reads h f x) (digests i t u v y) = absurd (omega arith)
  one_answer (reads h f x) (others i j t u y) = absurd (j h)
  one_answer (others h i f g x) (digests j t u v y) = absurd (h j)
  one_answer (others h i f g x) (reads j t y) = absurd (i j)

  pub one-call :
      {m n r s p q : List ℕ} {a b : Sheet} → Called k e ns bs ms rs out sh m r p a → Called k e ns bs ms rs out sh n s q b
      → (m ≡ n) × (r ≡ s) × (p ≡ q) × (a ≡ b)
  one-call (lends h f g d x) (lends i t u v y) = (f ∙ sym t, g ∙ sym u, d ∙ sym v, x ∙ sym y)
  one-call (answers h f x d) (answers i g y t) =
      let one = one_answer x y in (one.0, one.1, one.2, d ∙ ap (λ (w : Sheet). said (ascii "\n") w) one.3 ∙ sym t)
  one-call (lends h f g d x) (answers i t y u) = absurd (i h)
  one-call (answers h f x d) (lends i t u v y) = absurd (h i)
