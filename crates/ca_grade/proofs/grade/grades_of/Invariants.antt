use Rattle.std.proofs.Common.{◌≡◌, map, take}
use Rattle.ca_grade.specs.code.Table.{grade_of}
use Rattle.ca_grade.proofs.grade.grades_of.Given as goal

abbrev pub invariant-loop-place : goal.invariant-loop-place
invariant-loop-place l = l.grades ≡ map grade_of (take l.place l.credits)
