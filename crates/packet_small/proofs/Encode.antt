-- `put_small_of` at each of its cases, in the terms in which code meets them. Assumes nothing.
use Prim.Native.Nat.{ℕ, zero, suc, ◌+◌, ◌*◌, ◌/◌, ◌≤◌, ◌<◌}
use mathlib.Core.Path.{◌≡◌, refl, sym, ap, ◌∙◌}
use mathlib.Core.Bool.{Bool, true, false}
use mathlib.Core.List.{List, [], ◌∷◌, map}
use native.Mathlib.Omega.{arith}
use borrow.Author.Tests.{lt-ltb, le-ltb, le-leb, lt-leb, leb-true}
use lib.ListN.{length, take, drop, length-append, length-take, length-drop}
use lib.Dec.{ltb}
use Rattle.words.specs.Sizes.{LIMIT, MAX_MESSAGES}
use Rattle.words.specs.Lists.{splice, all, total}
use Rattle.octets.specs.Varint.{var_len}
use Rattle.octets.specs.Writer.{done, refused}
use Rattle.packet_small.specs.Small.{Message, RECORD}
use Rattle.packet_small.specs.Write.{listed, said_of, stored, sayable, messages_bytes, head_bytes, small_bytes_of, small_of, small_refusal, put_small_of}
use Rattle.packet_small.specs.Steps.{head_len, size}
use Rattle.packet_small.proofs.Wrote.{first_of, length-message, length-head, splice-next}

-- ---- lengths

length-listed : (t : List ℕ) (i k : ℕ) → length (listed t i k) ≡ k
unfolding listed
length-listed t i zero = refl
length-listed t i (suc k) = ap suc (length-listed t (i + 1) k)

length-map : {A B : Type 0} (f : A → B) (l : List A) → length (map f l) ≡ length l
length-map f [] = refl
length-map f (x ∷ l) = ap suc (length-map f l)

length-messages : (ids : Bool) (src : List ℕ) (es : List Message) → all (stored (length src)) es ≡ true
    → length (messages_bytes ids (map (said_of ids src) es)) ≡ total (size ids) es
unfolding messages_bytes total size
length-messages ids src [] h = refl
length-messages ids src (e ∷ es) h =
    let p = first_of (stored (length src)) e es h in
    let f : e.place + e.len ≤ length src = leb-true (e.place + e.len) (length src) p.0 in
    let bs : List ℕ = take e.len (drop e.place src) in
    let l : length bs ≡ e.len = simp (length-take, length-drop) (omega arith) in
    let v = ap var_len l in
    let q = length-messages ids src es p.1 in
    let w = length-message ids e.id bs in
    rw length-append (omega arith)

-- what was judged where nothing is refused
pub record Accepted (ids : Bool) (seq : ℕ) (t : List ℕ) (n : ℕ) (src : List ℕ) (at m : ℕ) : Type 0 where
  pub table : RECORD * n ≤ length t
  pub all-stored : all (stored (length src)) (listed t 0 n) ≡ true
  pub sequence : seq < LIMIT
  pub all-sayable : all (sayable ids) (listed t 0 n) ≡ true
  pub count : n ≤ MAX_MESSAGES
  pub room : at + head_len seq + total (size ids) (listed t 0 n) ≤ m

module _ (ids : Bool) (seq channel : ℕ) (t : List ℕ) (n : ℕ) (src : List ℕ) where
  pub named : length (map (said_of ids src) (listed t 0 n)) ≡ n
  named = length-map (said_of ids src) (listed t 0 n) ∙ length-listed t 0 n

  length-packet : all (stored (length src)) (listed t 0 n) ≡ true → length (small_of ids seq channel t n src) ≡ head_len seq + total (size ids) (listed t 0 n)
  unfolding small_bytes_of
  length-packet h =
      let a = length-head ids seq channel (length (map (said_of ids src) (listed t 0 n))) in
      let b = length-messages ids src (listed t 0 n) h in
      rw length-append (omega arith)

  -- ---- cases, at place `at` of m bytes
  module _ (at m : ℕ) where
    pub bad-table : length t / RECORD < n → refused 10 ≡ put_small_of ids seq channel t n src at m
    unfolding put_small_of small_refusal
    bad-table h = let g : length t < RECORD * n = omega arith in simp (lt-ltb _ _ g)

    module _ (h : n ≤ length t / RECORD) where
      in_table : ltb (length t) (RECORD * n) ≡ false
      in_table = let g : RECORD * n ≤ length t = omega arith in le-ltb _ _ g

      pub bad-store : false ≡ all (stored (length src)) (listed t 0 n) → refused 10 ≡ put_small_of ids seq channel t n src at m
      unfolding put_small_of small_refusal
      bad-store u = simp (in_table, ← u)

      module _ (u : true ≡ all (stored (length src)) (listed t 0 n)) where
        pub bad-sequence : LIMIT ≤ seq → refused 13 ≡ put_small_of ids seq channel t n src at m
        unfolding put_small_of small_refusal
        bad-sequence k = simp (in_table, ← u, le-leb _ _ k)

        module _ (k : seq < LIMIT) where
          pub bad-number : false ≡ all (sayable ids) (listed t 0 n) → refused 13 ≡ put_small_of ids seq channel t n src at m
          unfolding put_small_of small_refusal
          bad-number v = simp (in_table, ← u, lt-leb _ _ k, ← v)

          module _ (v : true ≡ all (sayable ids) (listed t 0 n)) where
            pub too_long : MAX_MESSAGES < n → refused 12 ≡ put_small_of ids seq channel t n src at m
            unfolding put_small_of small_refusal
            too_long w = simp (in_table, ← u, lt-leb _ _ k, ← v, lt-ltb _ _ w)

            module _ (w : n ≤ MAX_MESSAGES) where
              pub no_room : m < at + head_len seq + total (size ids) (listed t 0 n) → refused 1 ≡ put_small_of ids seq channel t n src at m
              unfolding put_small_of small_refusal
              no_room x =
                  let l = length-packet (sym u) in
                  let g : m < at + length (small_of ids seq channel t n src) = omega arith in
                  simp (in_table, ← u, lt-leb _ _ k, ← v, le-ltb _ _ w, lt-ltb _ _ g)

              pub accepted : at + head_len seq + total (size ids) (listed t 0 n) ≤ m → Accepted ids seq t n src at m
              accepted x = record { table = omega arith; all-stored = sym u; sequence = k; all-sayable = sym v; count = w; room = x }

    pub in-room : Accepted ids seq t n src at m → {a r : ℕ} → a ≡ at + head_len seq → r ≡ a + total (size ids) (listed t 0 n) → done r ≡ put_small_of ids seq channel t n src at m
    unfolding put_small_of small_refusal
    in-room ok {a} {r} ea er =
        let l = length-packet ok.all-stored in
        let g : at + length (small_of ids seq channel t n src) ≤ m = omega arith in
        let q : r ≡ at + length (small_of ids seq channel t n src) = omega arith in
        simp (le-ltb _ _ ok.table, ok.all-stored, lt-leb _ _ ok.sequence, ok.all-sayable, le-ltb _ _ ok.count, le-ltb _ _ g) (ap done q)

  -- what was written
  pub packet-wrote : (at : ℕ) (out : List ℕ) {a : ℕ} {o1 o2 : List ℕ}
      → o2 ≡ splice a (messages_bytes ids (map (said_of ids src) (listed t 0 n))) o1 → a ≡ at + head_len seq → o1 ≡ splice at (head_bytes ids seq channel n) out
      → o2 ≡ splice at (small_of ids seq channel t n src) out
  unfolding small_bytes_of
  packet-wrote at out {a} {o1} e2 ea e1 =
      let bs : List ℕ = messages_bytes ids (map (said_of ids src) (listed t 0 n)) in
      let ln = named in
      let lh = length-head ids seq channel n in
      rw ln (e2 ∙ ap (splice a bs) e1 ∙ splice-next at (head_bytes ids seq channel n) bs out (omega arith))
