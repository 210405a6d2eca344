use Rattle.std.proofs.Common.{◌≡◌, ◌<◌, List, Some, sym, ◌∙◌, subst, true≢false}
use Rattle.std.specs.Prelude.{slice_get}
use Rattle.ca_cell.specs.Library.{Named}
use Rattle.ca_lex.specs.Words.{upper_case}
use Rattle.ca_cell.proofs.LibraryLemmas.{entry_of-here, entry_of-past, named_at, place_found}
use Rattle.ca_cell.proofs.library.Library.search_place.Goals as goal
use Rattle.ca_cell.proofs.library.Library.search_place.Goals.{in-Some+else-is_upper_case, in_default}

pub returns-then-is_upper_case-clause-some : goal.returns-then-is_upper_case-clause-some
returns-then-is_upper_case-clause-some c =
    let there = named_at c.self.inside.entries.entries c.loop-i.i c.in-Some.key.now c.in-Some.field-0-1.now (sym c.in-Some.ensures.entry) in
    let here : Named = record { name = c.in-Some.key.now.items; entry = c.in-Some.field-0-1.now } in
    let seen = subst (λ (library : List Named). slice_get library c.loop-i.i ≡ Some here) c.self.view_is there in
    let same = sym c.deref.ensures.value ∙ c.is_upper_case.ensures.0 c.if-is_upper_case.true in
    let found = sym c.loop-i.invariant ∙ entry_of-here c.args.self.now c.loop-i.i (upper_case c.args.name.now) here seen same in
    place_found c.self.inside.entries.entries c.args.self.now (upper_case c.args.name.now) c.loop-i.i
    c.in-Some.key.now c.in-Some.field-0-1.now c.self.view_is (sym c.in-Some.ensures.entry) found

pub loop-i-preserved : goal.loop-i-preserved
loop-i-preserved c =
    elim c.match-get_index.branch [
      | in-Some+else-is_upper_case w ↦
          let there = named_at c.self.inside.entries.entries c.loop-i.i w.in-Some.key.now w.in-Some.field-0-1.now (sym w.in-Some.ensures.entry) in
          let here : Named = record { name = w.in-Some.key.now.items; entry = w.in-Some.field-0-1.now } in
          let seen = subst (λ (library : List Named). slice_get library c.loop-i.i ≡ Some here) c.self.view_is there in
          let other : here.name ≡ upper_case c.args.name.now → ⊥ = λ same.
          true≢false (sym (w.if-is_upper_case.ensures.1 (w.deref.ensures.value ∙ same))) in
          sym (entry_of-past c.args.self.now c.loop-i.i (upper_case c.args.name.now) here seen other) ∙ c.loop-i.invariant
      | in_default w ↦
          let within = subst (λ count. c.loop-i.i < count) c.len-i-end.ensures.len c.loop-i-test.true in
          absurd (true≢false (sym (w.in_default.ensures.found.1 within)))
    ]
