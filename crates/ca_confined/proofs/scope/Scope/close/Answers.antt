use Rattle.std.proofs.Common.{◌≡◌, ◌+◌, ◌-◌, ◌∙◌, sym, subst, arith}
use Rattle.std.specs.Int.{bit_at}
use Rattle.std.proofs.lemmas.Nat.Bits.{bit_at_lowest}
use Rattle.ca_flat.specs.Chip.{count_of}
use Rattle.ca_places.specs.PlaceSet.{Has}
use Rattle.ca_view.specs.Linked.{place_in}
use Rattle.ca_view.specs.Places.{cell_number}
use Rattle.ca_confined.specs.code.Scope.{IsClosedFrom}
use Rattle.ca_confined.proofs.ScopeLemmas.{closed_skip, closed_past, adds_self, adds_on}
use Rattle.ca_confined.proofs.scope.Scope.close.Goals as goal

pub loop-place-init : goal.loop-place-init
loop-place-init c =
    let core = c.args.chip.now.core in
    let past : count_of core + 1 ≡ c.instances-place.result + 1 = omega arith in
    record {
      room = c.requires.room;
      kept = adds_self (count_of core + 1) c.args.self.now;
      closed = subst (λ k. IsClosedFrom core (place_in c.args.chip.now.ranks) k c.args.self.now) past
          (closed_past core (place_in c.args.chip.now.ranks) (cell_number c.args.chip.now.chip) c.linked.ensures.linked c.args.self.now c.requires.room);
      within = omega arith;
    }

pub add_drivers-requires-clause-place : goal.add_drivers-requires-clause-place
add_drivers-requires-clause-place c =
    let one : bit_at c.window.result 0 ≡ 1 = bit_at_lowest c.window.result ∙ c.if-window-eq1.true in
    let e : c.loop-place.place - 1 + 0 ≡ c.loop-place.place - 1 = omega arith in
    c.loop-place.invariant.room.places_within (c.loop-place.place - 1)
    (subst (Has c.loop-place.self.places) e ((c.window.ensures 0 (omega arith)).0 one))

pub loop-place-preserved-then-window-eq1 : goal.loop-place-preserved-then-window-eq1
loop-place-preserved-then-window-eq1 c =
    let core = c.args.chip.now.core in
    let some = c.loop-place-test.true in
    let next : c.loop-place.place ≡ c.loop-place.place - 1 + 1 = omega arith in
    record {
      room = c.add_drivers.ensures.room;
      kept = adds_on (count_of core + 1) (c.loop-place.place - 1) c.args.self.now c.loop-place.self c.add_drivers.new.self
          (let within = c.loop-place.invariant.within in omega arith) c.loop-place.invariant.kept c.add_drivers.ensures.kept;
      closed = c.add_drivers.ensures.closed
          (subst (λ k. IsClosedFrom core (place_in c.args.chip.now.ranks) k c.loop-place.self) next c.loop-place.invariant.closed);
      within = let within = c.loop-place.invariant.within in omega arith;
    }

pub loop-place-preserved : goal.loop-place-preserved
loop-place-preserved c =
    let core = c.args.chip.now.core in
    let some = c.loop-place-test.true in
    let next : c.loop-place.place ≡ c.loop-place.place - 1 + 1 = omega arith in
    let e : c.loop-place.place - 1 ≡ c.loop-place.place - 1 + 0 = omega arith in
    record {
      room = c.loop-place.invariant.room;
      kept = c.loop-place.invariant.kept;
      closed = closed_skip core (place_in c.args.chip.now.ranks) (cell_number c.args.chip.now.chip) c.linked.ensures.linked (c.loop-place.place - 1) c.loop-place.self
          (λ has. c.if-window-eq1.false (sym (bit_at_lowest c.window.result) ∙ (c.window.ensures 0 (omega arith)).1 (subst (Has c.loop-place.self.places) e has)))
          (subst (λ k. IsClosedFrom core (place_in c.args.chip.now.ranks) k c.loop-place.self) next c.loop-place.invariant.closed);
      within = let within = c.loop-place.invariant.within in omega arith;
    }

pub returns-clause-closed : goal.returns-clause-closed
returns-clause-closed c =
    let zero_is : c.loop-place.place ≡ 0 = omega arith in
    subst (λ k. IsClosedFrom c.args.chip.now.core (place_in c.args.chip.now.ranks) k c.loop-place.self) zero_is c.loop-place.invariant.closed
