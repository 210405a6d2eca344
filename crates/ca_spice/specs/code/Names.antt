-- Words of the code beside those of `specs/Names.antt`. Private functions and proofs cite them.
use Rattle.std.specs.Prelude.{ℕ, List, map}
use denote.Bor.{Bor}

-- the words of a line, as a list of references shows them
abbrev pub texts : List (Bor (List ℕ)) → List (List ℕ)
texts words = map (λ word. word.now) words
