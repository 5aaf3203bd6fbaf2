-- Letters and texts as bytes. Assumes nothing.
use Rattle.std.specs.Prelude.{ℕ, List, [], ◌∷◌}
use Prim.Native.Char.{code}
use Prim.Native.String.{String, [] as none', ◌∷◌ as ◌then◌}

-- the codes of its letters
abbrev pub ascii : String → List ℕ
ascii none' = []
ascii (c then s) = code c ∷ ascii s
