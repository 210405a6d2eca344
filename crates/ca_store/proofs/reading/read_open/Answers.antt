use Rattle.std.proofs.Common.{rules, arith, ℕ, ◌∙◌, length-take}
use Rattle.std.proofs.lemmas.List.{take-append-le}
use Rattle.ca_store.proofs.Gathers.{read_on, is_whole, past_limit, grown_by}
use Rattle.ca_store.proofs.reading.read_open.Goals as goal

pub chunks-preserved : goal.chunks-preserved
chunks-preserved g c = record {
  within = grown_by _ _ _ _ _ c.in_ok-append.ensures.ok
      (omega (arith, c.in_ok-n.ensures.ok.fits, c.read.auto.into, length-take {A = ℕ}));
  in_reading = search rules;
  files = search rules;
  quiet = search rules;
  so_far = λ name start reported is_reported bytes is_bytes.
      let before = c.chunks.invariant.so_far name start reported is_reported bytes is_bytes in
      let next = c.in_ok-n.ensures.ok.next name _ before.place reported (c.chunks.invariant.files ∙ is_reported) bytes is_bytes in
      read_on name bytes _ _ c.chunks.text _ _ _ _ before next (take-append-le c.in_ok-n.n _ _ c.in_ok-n.ensures.ok.fits)
      c.in_ok-n.ensures.ok.fits c.in_ok-append.ensures.ok;
}

pub returns-then-n-eq0-clause-read : goal.returns-then-n-eq0-clause-read
returns-then-n-eq0-clause-read g c = λ name start reported is_reported bytes is_bytes.
    let before = c.chunks.invariant.so_far name start reported is_reported bytes is_bytes in
    let still_reported = c.chunks.invariant.files ∙ is_reported in
    let next = c.in_ok-n.ensures.ok.next name _ before.place reported still_reported bytes is_bytes in
    is_whole name bytes _ c.chunks.text before
    (next.at_end (search rules) (omega (arith, c.read.auto.into, length-take {A = ℕ})))

pub returns-clause-read : goal.returns-clause-read
returns-clause-read g c = λ name start reported is_reported bytes is_bytes.
    past_limit name bytes _ c.chunks.text c.args.limit
    (c.chunks.invariant.so_far name start reported is_reported bytes is_bytes) (omega arith)
