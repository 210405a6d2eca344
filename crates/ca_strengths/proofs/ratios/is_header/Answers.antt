use Rattle.std.proofs.Common.{◌≡◌, ◌∙◌, sym, true, false}
use Rattle.std.specs.Prelude.{◌&&◌, codes}
use Rattle.std.specs.Str.{bytes_eq}
use Rattle.csv.specs.Records.{fields_of}
use Rattle.ca_strengths.proofs.RatioLemmas.{header_of_two}
use Rattle.ca_strengths.proofs.ratios.is_header.Goals as goal

pub returns-then-is : goal.returns-then-is
returns-then-is c =
    let one = c.in-Some.width.now in
    let other = c.in-Some.length.now in
    let test : bytes_eq one (codes "width") ≡ true = sym c.is.ensures ∙ c.if-is.true in
    c.is-then-is.ensures
    ∙ sym (header_of_two (fields_of c.args.fields.now) one other c.in-Some.ensures ∙ (λ j. test j && bytes_eq other (codes "length")))

pub returns-else-is : goal.returns-else-is
returns-else-is c =
    let one = c.in-Some.width.now in
    let other = c.in-Some.length.now in
    let test : bytes_eq one (codes "width") ≡ false = sym c.is.ensures ∙ c.if-is.false in
    c.if-is.false
    ∙ sym (header_of_two (fields_of c.args.fields.now) one other c.in-Some.ensures ∙ (λ j. test j && bytes_eq other (codes "length")))
