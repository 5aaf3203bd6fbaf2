-- `front`, `label` and `slice` at each of their cases, in the terms in which code meets them. Assumes nothing.
use Prim.Native.Nat.{ℕ, ◌+◌, ◌≤◌, ◌<◌}
use mathlib.Core.Path.{◌≡◌, refl}
use mathlib.Core.Bool.{Bool, true, false}
use mathlib.Core.List.{List}
use borrow.Author.Tests.{lt-ltb, le-ltb, le-leb, lt-leb}
use lib.ListN.{length, get_or}
use lib.Dec.{leb}
use Rattle.words.specs.Sizes.{SLICE_SIZE, MAX_NUM_SLICES}
use Rattle.octets.specs.Reader.{Res, ok, fault, then, Reader, ◌>>=◌, ◌>>◌, give, need, byte}
use Rattle.octets.specs.Varint.{Part, var, run}
use Rattle.octets.proofs.Reader.{Lands, landed, lands-then, keeps_then, keep, give-keeps, var-lands, bytes-lands}
use Rattle.packet_slice.specs.Slice.{Slice, payload, slice}
use Rattle.packet_slice.specs.Layout.{Payload}
use Rattle.packet_slice.specs.Steps.{front, label}

-- ---- the sequence and the channel

module _ (s : List ℕ) (at : ℕ) where
  pub no-sequence : {x : ℕ} → fault x ≡ var s at → fault x ≡ front s at
  unfolding front
  no-sequence e = simp (← e)

  module _ {seq a : ℕ} (e : ok seq a ≡ var s at) where
    pub no-channel : length s ≤ a → fault 1 ≡ front s at
    unfolding front byte
    no-channel h = simp (← e, le-ltb _ _ h)

    pub front-there : a < length s → ok (seq, get_or s a 0) (a + 1) ≡ front s at
    unfolding front byte
    front-there h = simp (← e, lt-ltb _ _ h)

-- ---- the id, the index and the number of slices

module _ (s : List ℕ) (at : ℕ) where
  pub no-id : {x : ℕ} → fault x ≡ var s at → fault x ≡ label s at
  unfolding label
  no-id e = simp (← e)

  module _ {id a : ℕ} (e : ok id a ≡ var s at) where
    pub no_index : {x : ℕ} → fault x ≡ var s a → fault x ≡ label s at
    unfolding label
    no_index e1 = simp (← e, ← e1)

    module _ {index b : ℕ} (e1 : ok index b ≡ var s a) where
      pub no-count : {x : ℕ} → fault x ≡ var s b → fault x ≡ label s at
      unfolding label
      no-count e2 = simp (← e, ← e1, ← e2)

      pub label-there : {n c : ℕ} → ok n c ≡ var s b → ok (id, index, n) c ≡ label s at
      unfolding label
      label-there e2 = simp (← e, ← e1, ← e2)

-- ---- the packet: its steps, and its cases

-- a reader after a reader after a reader, grouped from the left or from the right
fuse : {A B C : Type 0} (r : Res A) (f : A → ℕ → Res B) (g : B → ℕ → Res C) (h : A → ℕ → Res C) → ((a : A) (n : ℕ) → then (f a n) g ≡ h a n) → then (then r f) g ≡ then r h
fuse (ok a n) f g h e = e a n
fuse (fault x) f g h e = refl

-- what follows the front and the label
unfoldable tail : Bool → ℕ × ℕ → ℕ × ℕ × ℕ → Reader Slice
tail reliable f l = do
  need (leb 1 l.2) 2
  need (leb l.2 MAX_NUM_SLICES) 2
  p ← run
  payload reliable p.len
  give (record { sequence = f.0; channel = f.1; id = l.0; index = l.1; num-slices = l.2; place = p.place; len = p.len })

payload-fits : (reliable : Bool) (n : ℕ) (s : List ℕ) (at : ℕ) → Payload reliable n → payload reliable n s at ≡ ok tt at
unfolding payload need
payload-fits true n s at j = simp (le-leb _ _ j.0, le-leb _ _ j.1)
payload-fits false n s at j = refl

run-lands : Lands Part run
unfolding run
run-lands = lands-then var-lands (λ n. keeps_then (keep (bytes-lands n)) (λ b. give-keeps _))

pub payload-end : (s : List ℕ) (at : ℕ) {p : Part} {next : ℕ} → ok p next ≡ run s at → next ≤ length s
payload-end s at e = landed run-lands s at e

pub judged : (reliable : Bool) (n : ℕ) → reliable ≡ true → 1 ≤ n → n ≤ SLICE_SIZE → Payload reliable n
judged reliable n t i j = rw t (i, j)

pub unjudged : (reliable : Bool) (n : ℕ) → reliable ≡ false → Payload reliable n
unjudged reliable n t = rw t tt

module _ (reliable : Bool) (s : List ℕ) (at : ℕ) where
  steps : then (front s at) (λ f a. then (label s a) (λ l b. tail reliable f l s b)) ≡ slice reliable s at
  unfolding slice front label tail
  steps = fuse (var s at) _ _ _ (λ seq a. fuse (byte s a) _ _ _ (λ channel b. fuse (var s b) _ _ _ (λ id c. fuse (var s c) _ _ _ (λ index d. fuse (var s d) _ _ _ (λ n e. refl)))))

  pub no_front : {x : ℕ} → fault x ≡ front s at → fault x ≡ slice reliable s at
  no_front e0 = rw (← steps) (simp (← e0))

  module _ {seq channel a : ℕ} (e0 : ok (seq, channel) a ≡ front s at) where
    pub no_label : {x : ℕ} → fault x ≡ label s a → fault x ≡ slice reliable s at
    no_label e1 = rw (← steps) (simp (← e0, ← e1))

    module _ {id index n b : ℕ} (e1 : ok (id, index, n) b ≡ label s a) where
      named : tail reliable (seq, channel) (id, index, n) s b ≡ slice reliable s at
      named = rw (← steps) (simp (← e0, ← e1))

      pub count-zero : n < 1 → fault 2 ≡ slice reliable s at
      unfolding tail need
      count-zero h = rw (← named) (simp (lt-leb _ _ h))

      pub count-above : 1 ≤ n → MAX_NUM_SLICES < n → fault 2 ≡ slice reliable s at
      unfolding tail need
      count-above h k = rw (← named) (simp (le-leb _ _ h, lt-leb _ _ k))

      module _ (h : 1 ≤ n) (k : n ≤ MAX_NUM_SLICES) where
        pub no_payload : {x : ℕ} → fault x ≡ run s b → fault x ≡ slice reliable s at
        unfolding tail need
        no_payload e2 = rw (← named) (simp (le-leb _ _ h, le-leb _ _ k, ← e2))

        module _ {place len next : ℕ} (e2 : ok (record { place = place; len = len }) next ≡ run s b) where
          pub payload-empty : reliable ≡ true → len < 1 → fault 4 ≡ slice reliable s at
          unfolding tail need payload
          payload-empty t j = rw (← named) (simp (le-leb _ _ h, le-leb _ _ k, ← e2, t, lt-leb _ _ j))

          pub payload-above : reliable ≡ true → 1 ≤ len → SLICE_SIZE < len → fault 3 ≡ slice reliable s at
          unfolding tail need payload
          payload-above t i j = rw (← named) (simp (le-leb _ _ h, le-leb _ _ k, ← e2, t, le-leb _ _ i, lt-leb _ _ j))

          pub payload-there : Payload reliable len
              → ok (record { sequence = seq; channel = channel; id = id; index = index; num-slices = n; place = place; len = len }) next ≡ slice reliable s at
          unfolding tail need
          payload-there j = rw (← named) (simp (le-leb _ _ h, le-leb _ _ k, ← e2, payload-fits reliable len s next j))
