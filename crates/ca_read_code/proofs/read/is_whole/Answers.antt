use Rattle.std.proofs.Common.{◌≡◌, true, false, sym, ◌∙◌}
use Rattle.ca_read_code.specs.declared.walk.CodeEnd.TheVariants.{Unlawful, Whole, Front}
use Rattle.ca_read_code.proofs.ReadLemmas.{not_whole}
use Rattle.ca_read_code.proofs.read.is_whole.Goals as goal

pub returns-in-Unlawful-clause-whole : goal.returns-in-Unlawful-clause-whole
returns-in-Unlawful-clause-whole g c = (
  λ yes. absurd (let clash : false ≡ true = yes in cc),
  λ whole. absurd (not_whole (g.E.Examiner.examined c.read.new.examiner) c.args.code.now c.in_ok-read.field-0 c.in_ok-read.ensures.end
      (λ is. let clash : Unlawful ≡ Whole = sym c.in-Unlawful.is ∙ is in cc) whole),
)

pub returns-in-Front-clause-whole : goal.returns-in-Front-clause-whole
returns-in-Front-clause-whole g c = (
  λ yes. absurd (let clash : false ≡ true = yes in cc),
  λ whole. absurd (not_whole (g.E.Examiner.examined c.read.new.examiner) c.args.code.now c.in_ok-read.field-0 c.in_ok-read.ensures.end
      (λ is. let clash : Front ≡ Whole = sym c.in-Front.is ∙ is in cc) whole),
)
