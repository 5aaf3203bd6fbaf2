-- One outcome only: a map that can be undone tells its arguments apart, and a refusal's number tells the refusal. Assumes nothing.
use Prim.Native.Nat.{ℕ}
use mathlib.Core.Path.{◌≡◌, refl, sym, ap, ◌∙◌}
use mathlib.Core.Bool.{false}
use native.Mathlib.Omega.{arith}
use borrow.Author.Tests.{ne_eqb}
use lib.Dec.{eqb}
use Rattle.words.specs.Choice.{pick}
use Rattle.words.specs.Refusal.{number_of}
use Rattle.words.specs.declared.Refusal.{Refusal}
use Rattle.words.specs.declared.Refusal.TheVariants.{BufferTooShort, InvalidNumSlices, SliceSizeAboveLimit, EmptySlice, InvalidAckRange, InvalidPacketType, ReliableChannelMaxMemoryReached, InvalidSliceMessage, BadSettings, BadStore, TableFull, TooLong, BadNumber, ClockBack, NoRoom, WrongKind, BadIndex}

pub told-apart : {A B : Type 0} (f : A → B) (g : B → A) → ((a : A) → g (f a) ≡ a) → (a b : A) → f a ≡ f b → a ≡ b
told-apart f g h a b e = sym (h a) ∙ ap g e ∙ h b

-- the refusal of a number
abbrev pub refusal_of : ℕ → Refusal
refusal_of n =
    pick (eqb n 1) BufferTooShort
    (pick (eqb n 2) InvalidNumSlices
    (pick (eqb n 3) SliceSizeAboveLimit
    (pick (eqb n 4) EmptySlice
    (pick (eqb n 5) InvalidAckRange
    (pick (eqb n 6) InvalidPacketType
    (pick (eqb n 7) ReliableChannelMaxMemoryReached
    (pick (eqb n 8) InvalidSliceMessage
    (pick (eqb n 9) BadSettings
    (pick (eqb n 10) BadStore
    (pick (eqb n 11) TableFull
    (pick (eqb n 12) TooLong
    (pick (eqb n 13) BadNumber
    (pick (eqb n 14) ClockBack
    (pick (eqb n 15) NoRoom
    (pick (eqb n 16) WrongKind BadIndex)))))))))))))))

pub refusal-undone : (r : Refusal) → refusal_of (number_of r) ≡ r
refusal-undone BufferTooShort = refl
refusal-undone InvalidNumSlices = refl
refusal-undone SliceSizeAboveLimit = refl
refusal-undone EmptySlice = refl
refusal-undone InvalidAckRange = refl
refusal-undone InvalidPacketType = refl
refusal-undone ReliableChannelMaxMemoryReached = refl
refusal-undone InvalidSliceMessage = refl
refusal-undone BadSettings = refl
refusal-undone BadStore = refl
refusal-undone TableFull = refl
refusal-undone TooLong = refl
refusal-undone BadNumber = refl
refusal-undone ClockBack = refl
refusal-undone NoRoom = refl
refusal-undone WrongKind = refl
refusal-undone BadIndex = refl

-- 0 is no refusal's number
pub numbered-above : (e : Refusal) → eqb (number_of e) 0 ≡ false
numbered-above e = ne_eqb (number_of e) 0 (λ z. let s = ap number_of (sym (ap refusal_of z) ∙ refusal-undone e) in omega arith)

pub one-refusal : (r q : Refusal) → number_of r ≡ number_of q → r ≡ q
one-refusal = told-apart number_of refusal_of refusal-undone
