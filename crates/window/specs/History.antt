-- A window over its whole life. What it answers is the rule, of the lengths of all messages that were ever counted. Assumes nothing.
use Rattle.std.specs.Prelude.{ℕ, ◌≡◌, List, [], ◌∷◌, ◌++◌, length, drop, eqb}
use Rattle.words.specs.Choice.{pick}
use Rattle.channel.specs.Settings.{settings_refusal}
use Rattle.channel.specs.declared.Settings.{Settings}
use Rattle.window.specs.Window.{new_of, refusal_in, queue_refusal, after_queued}
use Rattle.window.specs.declared.Window.{Window}

-- a call of `queued`
pub record Call : Type 0 where
  pub oldest : ℕ
  pub len : ℕ

-- ---- what the rule alone says of such calls: the lengths of all messages counted, and the oldest unacknowledged one that was named last

pub record Past : Type 0 where
  pub lens : List ℕ
  pub oldest : ℕ

abbrev pub refusal_after : Settings → Past → ℕ → ℕ → ℕ
refusal_after s p oldest n = refusal_in s p.oldest (length p.lens) oldest (drop oldest p.lens) n

unfoldable pub counting : Settings → Past → Call → Past
counting s p c = pick (eqb (refusal_after s p c.oldest c.len) 0) (record { lens = p.lens ++ (c.len ∷ []); oldest = c.oldest }) p

unfoldable pub past_from : Settings → Past → List Call → Past
past_from s p [] = p
past_from s p (c ∷ cs) = past_from s (counting s p c) cs

abbrev pub past : Settings → List Call → Past
past s = past_from s (record { lens = []; oldest = 0 })

-- ---- and the window, by what its calls promise

unfoldable pub window_from : Window → List Call → Window
window_from w [] = w
window_from w (c ∷ cs) = window_from (after_queued w c.oldest c.len) cs

-- after any calls its answers are those of the rule
abbrev pub Exact : Type 0
Exact = (s : Settings) → settings_refusal s ≡ 0 → (cs : List Call) (oldest n : ℕ)
    → queue_refusal (window_from (new_of s) cs) oldest n ≡ refusal_after s (past s cs) oldest n
