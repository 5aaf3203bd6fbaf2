-- Laws of a round's packets: they spend what their payloads are long, each item is in one packet and in order, no group is too full, no packet
-- is too long, there is at most one packet more than items, what may go may go packed, and the packets lie where the table says. Assumes nothing.
use Prim.Native.Nat.{ℕ, ◌+◌, ◌*◌, ◌<◌, ◌≤◌}
use mathlib.Core.Path.{◌≡◌, refl, sym, ap, ◌∙◌}
use mathlib.Core.Bool.{Bool, true, false}
use mathlib.Core.List.{List, [], ◌∷◌, ◌++◌, append_assoc}
use mathlib.Core.Logic.{inl, inr}
use native.Mathlib.Omega.{arith}
use borrow.Author.Tests.{ltb-true, ltb-false}
use lib.Dec.{ltb}
use lib.ListN.{length, take, drop}
use Rattle.std.proofs.lemmas.List.{length-take-le}
use Rattle.words.specs.Sizes.{LIMIT, SLICE_SIZE}
use Rattle.words.specs.Lists.{total, All}
use Rattle.words.proofs.Lists.{total-snoc, all_snoc, all_map, none-refused}
use Rattle.words.proofs.Splice.{drop-splice}
use Rattle.words.proofs.Suffix.{past, run, drop-at-splice}
use Rattle.octets.specs.Varint.{var_len}
use Rattle.pack.specs.Pack.{Item, items_of, is_small, Pack, group, single, packed_len, packed, pack, payload_of, payload}
use Rattle.pack.specs.Encode.{Lent, packets_bytes, end_to_end, ENTRY, round_refusal, out_after}
use Rattle.pack.specs.Rows.{smalls, pack_len, packets_len, Packs, Sendable, Chosen, PackGoes, Ready, round_number}
use Rattle.pack.specs.declared.Item as code
use Rattle.pack.specs.declared.Row.{Row}
use Rattle.pack.specs.declared.Packed.{Packed}
use Rattle.pack.specs.Laws.{pieces, grouped, singles, WellPacked, LONGEST, Lie, none_lie, one_lies}
use Rattle.pack.proofs.Lengths.{var-most, message-most, slice-most, length-packets}
use Rattle.pack.proofs.Turns.{packed-piece, packed-close, packed_join}

-- ---- the turns of packing, as one case lemma

-- what holds of every turn holds of packing: P speaks of the sum, the open group and the items to come
module _ (ids : Bool) (P : ℕ → List Item → List Item → List Pack → Type 0)
    (last_empty : (sum : ℕ) → P sum [] [] [])
    (last-group : (sum : ℕ) (i : Item) (is : List Item) → P sum (i ∷ is) [] (group (i ∷ is) ∷ []))
    (piece : (sum : ℕ) (g : List Item) (x : Item) (rest : List Item) (ps : List Pack) → is_small x ≡ false → P sum g rest ps → P sum g (x ∷ rest) (single x ∷ ps))
    (close : (sum : ℕ) (g : List Item) (x : Item) (rest : List Item) (ps : List Pack) → is_small x ≡ true → P (packed_len ids x) (x ∷ []) rest ps → P sum g (x ∷ rest) (group g ∷ ps))
    (join : (sum : ℕ) (g : List Item) (x : Item) (rest : List Item) (ps : List Pack) → is_small x ≡ true → sum + packed_len ids x ≤ SLICE_SIZE
    → P (sum + packed_len ids x) (g ++ (x ∷ [])) rest ps → P sum g (x ∷ rest) ps) where
  one-turn : (sum : ℕ) (g : List Item) (x : Item) (rest : List Item) → ((sum : ℕ) (g : List Item) → P sum g rest (packed ids sum g rest))
      → (s over : Bool) → is_small x ≡ s → ltb SLICE_SIZE (sum + packed_len ids x) ≡ over → P sum g (x ∷ rest) (packed ids sum g (x ∷ rest))
  one-turn sum g x rest r false over e o = rw (packed-piece ids sum g x rest e) (piece sum g x rest _ e (r sum g))
  one-turn sum g x rest r true true e o = rw (packed-close ids sum g x rest e (ltb-true SLICE_SIZE _ o)) (close sum g x rest _ e (r (packed_len ids x) (x ∷ [])))
  one-turn sum g x rest r true false e o =
      let h = ltb-false SLICE_SIZE (sum + packed_len ids x) o in rw (packed_join ids sum g x rest e h) (join sum g x rest _ e h (r (sum + packed_len ids x) (g ++ (x ∷ []))))

  pub by-turns : (is : List Item) (sum : ℕ) (g : List Item) → P sum g is (packed ids sum g is)
  unfolding packed
  by-turns [] sum [] = last_empty sum
  by-turns [] sum (i ∷ g) = last-group sum i g
  by-turns (x ∷ rest) sum g = one-turn sum g x rest (by-turns rest) (is_small x) (ltb SLICE_SIZE (sum + packed_len ids x)) refl refl

-- ---- a round spends the payload bytes of its packets

pub payload-kept : (ids : Bool) (is : List Item) → payload (pack ids is) ≡ total (λ i. i.len) is
unfolding pack total
payload-kept ids is =
    let r = by-turns ids (λ sum g is ps. total payload_of ps ≡ total (λ i. i.len) g + total (λ i. i.len) is)
    (λ sum. refl)
    (λ sum i is. refl)
    (λ sum g x rest ps e r. omega arith)
    (λ sum g x rest ps e r. omega arith)
    (λ sum g x rest ps e h r. let s = total-snoc (λ (i : Item). i.len) g x in omega arith)
    is 0 [] in omega arith

-- ---- each item is in one packet, in order: the groups hold the small messages, the others are the pieces

pub smalls-kept : (ids : Bool) (is : List Item) → grouped (pack ids is) ≡ smalls is
unfolding pack grouped smalls
smalls-kept ids is =
    by-turns ids (λ sum g is ps. grouped ps ≡ g ++ smalls is)
    (λ sum. refl)
    (λ sum i is. refl)
    (λ sum g x rest ps e r. simp e r)
    (λ sum g x rest ps e r. simp e (ap (λ (l : List Item). g ++ l) r))
    (λ sum g x rest ps e h r. simp e (r ∙ append_assoc g (x ∷ []) (smalls rest)))
    is 0 []

pub pieces_kept : (ids : Bool) (is : List Item) → singles (pack ids is) ≡ pieces is
unfolding pack singles pieces
pieces_kept ids is =
    by-turns ids (λ sum g is ps. singles ps ≡ pieces is)
    (λ sum. refl)
    (λ sum i is. refl)
    (λ sum g x rest ps e r. simp e (ap (λ (l : List Item). x ∷ l) r))
    (λ sum g x rest ps e r. simp e r)
    (λ sum g x rest ps e h r. simp e r)
    is 0 []

-- ---- how many, how full, how long

pub few-packets : (ids : Bool) (is : List Item) → length (pack ids is) ≤ length is + 1
unfolding pack
few-packets ids is =
    by-turns ids (λ sum g is ps. length ps ≤ length is + 1)
    (λ sum. omega arith)
    (λ sum i is. omega arith)
    (λ sum g x rest ps e r. omega arith)
    (λ sum g x rest ps e r. omega arith)
    (λ sum g x rest ps e h r. omega arith)
    is 0 []

pub well-packed : (ids : Bool) (is : List Item) → All (WellPacked ids) (pack ids is)
unfolding pack All total
well-packed ids is =
    by-turns ids (λ sum g is ps. sum ≡ total (packed_len ids) g → WellPacked ids (group g) → All (WellPacked ids) ps)
    (λ sum q w. tt)
    (λ sum i is q w. (w, tt))
    (λ sum g x rest ps e r q w. (tt, r q w))
    (λ sum g x rest ps e r q w. (w, r (omega arith) (inr (omega arith))))
    (λ sum g x rest ps e h r q w. let s = total-snoc (packed_len ids) g x in r (omega arith) (inl (omega arith)))
    is 0 [] refl (inr (omega arith))

-- a group that is well packed, of messages that are short
group-most : (ids : Bool) (g : List Item) → WellPacked ids (group g) → All (λ i. i.len ≤ SLICE_SIZE) g → total (packed_len ids) g ≤ SLICE_SIZE + 16
unfolding total All
group-most ids g (inl h) a = omega arith
group-most ids [] (inr h) a = omega arith
group-most ids (x ∷ []) (inr h) a = let m = message-most ids x a.0 in omega arith
group-most ids (x ∷ y ∷ g) (inr h) a = absurd (omega arith)

pub short-packets : (ids : Bool) (is : List Item) → All (λ i. i.len ≤ SLICE_SIZE) is → All (λ p. (seq : ℕ) → pack_len ids seq p ≤ LONGEST) (pack ids is)
unfolding pack All total pack_len
short-packets ids is =
    by-turns ids (λ sum g is ps. sum ≡ total (packed_len ids) g → WellPacked ids (group g) → All (λ i. i.len ≤ SLICE_SIZE) g → All (λ i. i.len ≤ SLICE_SIZE) is
    → All (λ p. (seq : ℕ) → pack_len ids seq p ≤ LONGEST) ps)
    (λ sum q w a b. tt)
    (λ sum i is q w a b. ((λ seq. let m = group-most ids (i ∷ is) w a in let v = var-most seq in omega arith), tt))
    (λ sum g x rest ps e r q w a b. ((λ seq. slice-most seq x b.0), r q w a b.1))
    (λ sum g x rest ps e r q w a b. ((λ seq. let m = group-most ids g w a in let v = var-most seq in omega arith), r (omega arith) (inr (omega arith)) (b.0, tt) b.1))
    (λ sum g x rest ps e h r q w a b. let s = total-snoc (packed_len ids) g x in r (omega arith) (inl (omega arith)) (all_snoc (λ i. i.len ≤ SLICE_SIZE) g x a b.0) b.1)
    is 0 [] refl (inr (omega arith)) tt

packets-most : (ids : Bool) (seq : ℕ) (ps : List Pack) → All (λ p. (seq : ℕ) → pack_len ids seq p ≤ LONGEST) ps → packets_len ids seq ps ≤ LONGEST * length ps
unfolding packets_len All
packets-most ids seq [] a = omega arith
packets-most ids seq (p ∷ ps) a = let r = packets-most ids (seq + 1) ps a.1 in let m = a.0 seq in omega arith

-- ---- what may go

pub all_go : (ids : Bool) (l : Lent) (is : List Item) → All (Chosen l) is → All (PackGoes l) (pack ids is)
unfolding pack All PackGoes
all_go ids l is =
    by-turns ids (λ sum g is ps. All (Sendable l.small) g → All (Chosen l) is → All (PackGoes l) ps)
    (λ sum a b. tt)
    (λ sum i is a b. (a, tt))
    (λ sum g x rest ps e r a b. (rw e at b.0, r a b.1))
    (λ sum g x rest ps e r a b. (a, r (rw e at b.0, tt) b.1))
    (λ sum g x rest ps e h r a b. r (all_snoc (Sendable l.small) g x a (rw e at b.0)) b.1)
    is 0 [] tt

-- what packing tells is judged as the definitions judge a round; where nothing is refused, the packets may be written
module _ (l : Lent) (seq : ℕ) (t : List code.Item) (p : List Row) (r : Packed) (w : Packs l.ids seq t p r) (c : All (Chosen l) (items_of t)) (out entries : ℕ) where
  pub bytes-told : r.bytes ≡ length (end_to_end (packets_bytes l seq (pack l.ids (items_of t))))
  bytes-told = w.bytes ∙ sym (length-packets l seq (pack l.ids (items_of t)) (all_go l.ids l (items_of t) c))

  pub judged : round_number seq r out entries ≡ round_refusal l seq (pack l.ids (items_of t)) out entries
  unfolding round_number round_refusal
  judged = rw (bytes-told, w.packets)

  pub ready : length t < length p → round_number seq r out entries ≡ 0 → Ready l seq t (take r.packets p) out entries
  unfolding round_number All
  ready h e =
      let f = none-refused ((ltb LIMIT (seq + r.packets), 13) ∷ (ltb out r.bytes, 15) ∷ (ltb entries (ENTRY * r.packets), 15) ∷ []) refl e in
      let n : length (take r.packets p) ≡ r.packets = let k = w.few in length-take-le r.packets p (omega arith) in
      record {
        sound = w.sound;
        go = rw w.packs (all_go l.ids l (items_of t) c);
        numbers = rw n (ltb-false LIMIT (seq + r.packets) f.0);
        room = rw (w.packs, ← bytes-told) (ltb-false out r.bytes f.1.0);
        table = rw n (ltb-false entries (ENTRY * r.packets) f.1.1.0);
      }

pub round-most : (l : Lent) (seq : ℕ) (is : List Item) → All (Chosen l) is → length (end_to_end (packets_bytes l seq (pack l.ids is))) ≤ LONGEST * length (pack l.ids is)
round-most l seq is a =
    rw (length-packets l seq (pack l.ids is) (all_go l.ids l is a))
    (packets-most l.ids seq (pack l.ids is) (short-packets l.ids is (all_map (Chosen l) (λ i. i.len ≤ SLICE_SIZE) (λ i s. s.len) is a)))

-- ---- the packets lie end to end, each where the table says

pub lie : (o : List ℕ) (at : ℕ) (bs : List (List ℕ)) (r : List ℕ) → drop at o ≡ end_to_end bs ++ r → Lie o at bs
unfolding end_to_end
lie o at [] r e = none_lie
lie o at (b ∷ bs) r e =
    let q = e ∙ append_assoc b (end_to_end bs) r in
    one_lies (run o at b (end_to_end bs ++ r) q) (lie o (at + length b) bs r (past o at b (end_to_end bs ++ r) q))

pub packets-lie : (l : Lent) (seq : ℕ) (ps : List Pack) (out : List ℕ) → length (end_to_end (packets_bytes l seq ps)) ≤ length out → Lie (out_after l seq ps out) 0 (packets_bytes l seq ps)
unfolding out_after
packets-lie l seq ps out h =
    lie (out_after l seq ps out) 0 (packets_bytes l seq ps) _ (drop-at-splice 0 (end_to_end (packets_bytes l seq ps)) out (omega arith))

-- and what is after them is kept
pub rest-kept : (l : Lent) (seq : ℕ) (ps : List Pack) (out : List ℕ)
    → drop (length (end_to_end (packets_bytes l seq ps))) (out_after l seq ps out) ≡ drop (length (end_to_end (packets_bytes l seq ps))) out
unfolding out_after
rest-kept l seq ps out =
    drop-splice (length (end_to_end (packets_bytes l seq ps))) 0 (end_to_end (packets_bytes l seq ps)) out (omega arith)

-- ---- both sides of the line: at id 0 a message of 1,197 bytes fills a packet, and one of 1,198 sends an empty packet first; without ids, a byte more

abbrev pub message : ℕ → Item
message len = record { num = 0; id = 0; index = 0; place = 0; len = len }

pub fills : pack true (message 1197 ∷ []) ≡ group (message 1197 ∷ []) ∷ []
unfolding pack packed packed_len var_len
fills = refl

pub empty-first : pack true (message 1198 ∷ []) ≡ group [] ∷ group (message 1198 ∷ []) ∷ []
unfolding pack packed packed_len var_len
empty-first = refl

pub fills-unreliable : pack false (message 1198 ∷ []) ≡ group (message 1198 ∷ []) ∷ []
unfolding pack packed packed_len var_len
fills-unreliable = refl

pub empty-first-unreliable : pack false (message 1199 ∷ []) ≡ group [] ∷ group (message 1199 ∷ []) ∷ []
unfolding pack packed packed_len var_len
empty-first-unreliable = refl
