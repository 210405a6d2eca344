-- Words of the code beside those of `specs/Grammar.antt`. Private functions and proofs cite them.
use Rattle.ca_stil_form.specs.code.Form.{IsExact}
use Rattle.ca_stil_form.specs.Grammar.{Form}

-- its reader is exact
pub record IsExactForm {Value : Type 0} (form : Form Value) : Type 0 where
  pub exact : IsExact form.allowed form.written form.read
