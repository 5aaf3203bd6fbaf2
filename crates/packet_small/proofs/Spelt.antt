-- The readers of this crate and the spellings at a place that they read, exactly; and how a spelling at a place says what is spelt.
-- Assumes nothing.
use Prim.Native.Nat.{ℕ, zero, suc, ◌+◌, ◌≤◌, ◌<◌}
use mathlib.Core.Path.{◌≡◌, refl, sym, ap, ap₂}
use mathlib.Core.Bool.{Bool, true, false}
use mathlib.Core.List.{List, [], ◌∷◌, ◌++◌, map}
use lib.ListN.{length}
use Rattle.words.specs.Sizes.{MAX_MESSAGES}
use Rattle.octets.specs.Varint.{pair_bytes}
use Rattle.octets.specs.Spelling.{Varint}
use Rattle.octets.proofs.Exact.{Spelling, Here, here-front, here_back, Exact, exact-var, exact-byte, exact-pair, exact-run, exact-then, exact-give, exact-made, exact-as, Then, both, Given, given, Made, made, ByteSpelt, one_byte, PairSpelt, two_bytes, RunAt, run-says, run-heard}
use Rattle.packet_small.specs.Small.{Message, Small, id_of, message, messages, small}
use Rattle.packet_small.specs.Write.{Said, type_byte_of}
use Rattle.packet_small.specs.Layout as layout
use Rattle.packet_small.specs.Layout.{MessageSpelt, MessagesSpelt, SmallSpelt, content_of, small_said}

-- ---- what is spelt at a place, which a message holds

pub data IdAt : Bool → ℕ → List ℕ → Type 0 where
  an-id : {id : ℕ} {a : List ℕ} → Varint id a → IdAt true id a
  no-id : IdAt false 0 []

abbrev pub MessageAt : Bool → Spelling Message
MessageAt ids = Then (λ at. IdAt ids) (λ id. Made (λ p. record { id = id; place = p.place; len = p.len }) RunAt)

pub data MessagesAt (ids : Bool) : ℕ → ℕ → List Message → List ℕ → Type 0 where
  none_left : {at : ℕ} → MessagesAt ids 0 at [] []
  one_more : {k at : ℕ} {m : Message} {ms : List Message} {a b : List ℕ} → MessageAt ids at m a → MessagesAt ids k (at + length a) ms b → MessagesAt ids (suc k) at (m ∷ ms) (a ++ b)

abbrev pub SmallAt : Bool → Spelling Small
SmallAt ids =
    Then (λ at. Varint) (λ seq.
    Then (λ at. ByteSpelt) (λ channel.
    Then (λ at. PairSpelt) (λ k.
    Made (λ ms. record { sequence = seq; channel = channel; messages = ms }) (MessagesAt ids k))))

-- ---- the readers

exact-id : (ids : Bool) → Exact (id_of ids) (λ at. IdAt ids)
exact-id true = exact-as (λ at id bs v. an-id v) that exact-var
  where
    that : (at id : ℕ) (bs : List ℕ) → IdAt true id bs → Varint id bs
    that at id bs (an-id v) = v
exact-id false = exact-as none this (exact-give 0)
  where
    none : (at id : ℕ) (bs : List ℕ) → Given 0 at id bs → IdAt false id bs
    none at id bs given = no-id

    this : (at id : ℕ) (bs : List ℕ) → IdAt false id bs → Given 0 at id bs
    this at id bs no-id = given

exact-message : (ids : Bool) → Exact (message ids) (MessageAt ids)
unfolding message
exact-message ids = exact-then (exact-id ids) (λ id. exact-made _ exact-run)

exact-messages : (ids : Bool) (k : ℕ) → Exact (messages ids k) (MessagesAt ids k)
unfolding messages
exact-messages ids zero = exact-as none this (exact-give [])
  where
    none : (at : ℕ) (ms : List Message) (bs : List ℕ) → Given [] at ms bs → MessagesAt ids 0 at ms bs
    none at ms bs given = none_left

    this : (at : ℕ) (ms : List Message) (bs : List ℕ) → MessagesAt ids 0 at ms bs → Given [] at ms bs
    this at ms bs none_left = given
exact-messages ids (suc k) = exact-as more these (exact-then (exact-message ids) (λ m. exact-made _ (exact-messages ids k)))
  where
    more : (at : ℕ) (ms : List Message) (bs : List ℕ) → Then (MessageAt ids) (λ m. Made (λ ms. m ∷ ms) (MessagesAt ids k)) at ms bs → MessagesAt ids (suc k) at ms bs
    more at ms bs (both u (made v)) = one_more u v

    these : (at : ℕ) (ms : List Message) (bs : List ℕ) → MessagesAt ids (suc k) at ms bs → Then (MessageAt ids) (λ m. Made (λ ms. m ∷ ms) (MessagesAt ids k)) at ms bs
    these at ms bs (one_more u v) = both u (made v)

pub exact-small : (ids : Bool) → Exact (small ids) (SmallAt ids)
unfolding small
exact-small ids = exact-then exact-var (λ seq. exact-then exact-byte (λ channel. exact-then exact-pair (λ k. exact-made _ (exact-messages ids k))))

-- ---- what stands at its place says what is spelt

says-message : {ids : Bool} {s : List ℕ} {at : ℕ} {m : Message} {bs : List ℕ} → Here s at bs → MessageAt ids at m bs → MessageSpelt ids (content_of s m) bs
says-message h (both {xs = a} (an-id v) (made {bs = b} r)) = layout.with-id v (run-says (here_back a b h) r)
says-message h (both no-id (made {bs = b} r)) = layout.without-id (run-says (here_back [] b h) r)

says-messages : {ids : Bool} {s : List ℕ} {k at : ℕ} {ms : List Message} {bs : List ℕ} → Here s at bs → MessagesAt ids k at ms bs
    → MessagesSpelt ids (map (content_of s) ms) bs × (length (map (content_of s) ms) ≡ k)
says-messages h none_left = (layout.none_left, refl)
says-messages h (one_more {a = a} {b = b} u v) =
    let l = says-messages (here_back a b h) v in (layout.one_more (says-message (here-front a b h) u) l.0, ap suc l.1)

pub says-small : {ids : Bool} {s : List ℕ} {at : ℕ} {p : Small} {bs : List ℕ} → Here s at bs → SmallAt ids at p bs → SmallSpelt ids (small_said s p) (type_byte_of ids ∷ bs)
says-small {ids} {s} {at} h (both v (both c (both n (made r)))) = of v c n r h
  where
    of : {seq channel k : ℕ} {a x y d : List ℕ} {ms : List Message} → Varint seq a → ByteSpelt channel x → PairSpelt k y → MessagesAt ids k (at + length a + length x + length y) ms d → Here s at (a ++ (x ++ (y ++ d)))
        → SmallSpelt ids (small_said s (record { sequence = seq; channel = channel; messages = ms })) (type_byte_of ids ∷ (a ++ (x ++ (y ++ d))))
    of {a = a} {d = d} {ms = ms} v (one_byte {b} c) (two_bytes {k} n) r h =
        let here = here_back (pair_bytes k) d (here_back (b ∷ []) (pair_bytes k ++ d) (here_back a (b ∷ (pair_bytes k ++ d)) h)) in
        let l = says-messages here r in
        let e : k ≡ length (map (content_of s) ms) = sym l.1 in
        let n' : length (map (content_of s) ms) ≤ MAX_MESSAGES = rw l.1 n in
        rw e (layout.packet v c n' l.0)

-- ---- and what is spelt stands at any place as a value that says it

pub record Is {A W : Type 0} (R : Spelling A) (said_in : List ℕ → A → W) (at : ℕ) (w : W) (bs : List ℕ) : Type 0 where
  pub value : A
  pub there : R at value bs
  pub says : (s : List ℕ) → Here s at bs → said_in s value ≡ w

is-message : {ids : Bool} (at : ℕ) {w : Said} {bs : List ℕ} → MessageSpelt ids w bs → Is (MessageAt ids) content_of at w bs
is-message at (layout.with-id {id = id} {a = a} {b = b} v r) =
    let k = run-heard (at + length a) r in
    record {
      value = record { id = id; place = k.part.place; len = k.part.len };
      there = both (an-id v) (made k.there);
      says = λ s h. ap (λ (x : List ℕ). record { id = id; bytes = x }) (k.said s (here_back a b h));
    }
is-message at (layout.without-id {b = b} r) =
    let k = run-heard (at + length {A = ℕ} []) r in
    record {
      value = record { id = 0; place = k.part.place; len = k.part.len };
      there = both no-id (made k.there);
      says = λ s h. ap (λ (x : List ℕ). record { id = 0; bytes = x }) (k.said s (here_back [] b h));
    }

is-messages : {ids : Bool} (at : ℕ) {ws : List Said} {bs : List ℕ} → MessagesSpelt ids ws bs → Is (MessagesAt ids (length ws)) (λ s. map (content_of s)) at ws bs
is-messages at layout.none_left = record { value = []; there = none_left; says = λ s h. refl }
is-messages at (layout.one_more {a = a} {b = b} u v) =
    let m = is-message at u in
    let ms = is-messages (at + length a) v in
    record {
      value = m.value ∷ ms.value;
      there = one_more m.there ms.there;
      says = λ s h. ap₂ (λ (x : Said) (xs : List Said). x ∷ xs) (m.says s (here-front a b h)) (ms.says s (here_back a b h));
    }

pub is-small : {ids : Bool} (at : ℕ) {seq channel : ℕ} {ws : List Said} {a b : List ℕ} → Varint seq a → channel < 256 → length ws ≤ MAX_MESSAGES → MessagesSpelt ids ws b
    → Is (SmallAt ids) small_said at (record { sequence = seq; channel = channel; messages = ws }) (a ++ (channel ∷ (pair_bytes (length ws) ++ b)))
is-small at {seq} {channel} {ws} {a} {b} v c n u =
    let two : List ℕ = pair_bytes (length ws) in
    let ms = is-messages (at + length a + length (channel ∷ []) + length two) u in
    record {
      value = record { sequence = seq; channel = channel; messages = ms.value };
      there = both v (both (one_byte c) (both (two_bytes n) (made ms.there)));
      says = λ s h.
          ap (λ (x : List Said). record { sequence = seq; channel = channel; messages = x })
          (ms.says s (here_back two b (here_back (channel ∷ []) (two ++ b) (here_back a (channel ∷ (two ++ b)) h))));
    }
