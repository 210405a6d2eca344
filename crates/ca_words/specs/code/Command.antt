-- Words of the code beside those of `specs/Command.antt`. Private functions and proofs cite them.
use Rattle.std.specs.Prelude.{◌≤◌, ⊤}
use Rattle.ca_make.specs.declared.gate.TheConstants.{MOST_GATES}
use Rattle.ca_request.specs.Asked.{AreBothOrNeither}
use Rattle.ca_words.specs.declared.words.ChipWords.{ChipWords}
use Rattle.ca_words.specs.declared.words.Command.{Command}
use Rattle.ca_words.specs.declared.words.Command.TheVariants.{Flatten}
use Rattle.ca_words.specs.declared.words.Command.TheVariants.{Simulate, Replay, Make}

-- both the instance and the defect of a command on a chip are a dash, or neither is
abbrev pub NamesBoth : ChipWords → Type 0
NamesBoth request = AreBothOrNeither request.instance.now request.defect.now

-- the same of a command that has them, and the number of `make` is one of a generated chip
abbrev pub IsWhole : Command → Type 0
IsWhole (Flatten request) = NamesBoth request.of
IsWhole (Simulate request) = NamesBoth request.of
IsWhole (Replay request) = NamesBoth request.of.of
IsWhole (Make number) = number ≤ MOST_GATES
IsWhole _ = ⊤
