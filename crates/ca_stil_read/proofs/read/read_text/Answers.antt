use Rattle.std.proofs.Common.{ap, sym, ◌∙◌, ℕ, Err}
use Rattle.ca_stil_form.specs.Tokens.{tokens_of}
use Rattle.ca_stil_read.specs.Text.{text_seen}
use Rattle.ca_stil_read.proofs.WholeLemmas.{whole_read, whole_stuck}
use Rattle.ca_stil_read.proofs.read.read_text.Goals as goal

pub returns-in-Ok-clause-ok : goal.returns-in-Ok-clause-ok
returns-in-Ok-clause-ok c =
    let read = whole_read (tokens_of c.args.bytes.now) (text_seen c.in-Ok.text) c.in-Ok.ensures in
    record { value = read.value; reads = read.reads; same = read.same }

pub returns-in-Err-Stuck-clause-cause : goal.returns-in-Err-Stuck-clause-cause
returns-in-Err-Stuck-clause-cause c =
    record {
      left = c.count_tokens.result;
      faulty = whole_stuck (tokens_of c.args.bytes.now) (tokens_of c.in-Err-Stuck.rest.now)
          (rw c.in-Err-Stuck.field-0-is at c.in-Err-Stuck.ensures)
          ∙ ap (λ (count : ℕ). Err count) (sym c.count_tokens.ensures.count);
      is_line = c.fault_line.ensures;
    }
