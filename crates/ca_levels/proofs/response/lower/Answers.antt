use Rattle.std.proofs.Common.{◌≡◌, ◌<◌, ◌∙◌, ◌-◌, ◌+◌, refl, sym, subst, arith, length}
use Rattle.ca_net.specs.declared.path_kind.PathKind.TheVariants.{Definite, Potential}
use Rattle.ca_levels.specs.Given.{IsGivenByNone}
use Rattle.ca_levels.specs.code.Advance.{AreLinked, StayReached}
use Rattle.ca_levels.proofs.AdvanceLemmas.{closed_more}
use Rattle.ca_levels.proofs.ResponseLemmas.{not_lowest, written_back, reached_more, read_as, linked_as, closed_as, idle_as, read_false, some_carried}
use Rattle.ca_levels.proofs.response.lower.Goals as goal

pub relink-requires-clause-potential : goal.relink-requires-clause-potential
relink-requires-clause-potential g c = linked_as c.args.from.now Potential (c.args.level + 1) refl c.deref_mut.ensures.value c.requires.spread.potential

pub relink-requires-clause-definite : goal.relink-requires-clause-definite
relink-requires-clause-definite g c = linked_as c.args.from.now Definite (c.args.level + 1) refl c.deref_mut-2.ensures.value c.requires.spread.definite

pub advance_pair-requires-clause-idle : goal.advance_pair-requires-clause-idle
advance_pair-requires-clause-idle g c is =
    let levels = c.args.levels.now in
    let both = c.is_idle-idle.ensures is in
    idle_as refl (c.deref-2.ensures.value ∙ (written_back c.relink.new.potential levels.potential.items levels.potential.len (sym c.deref_mut.ensures.len ∙ sym c.relink.auto.potential)) ∙ c.relink.ensures.potential_same both.1 ∙ c.deref_mut.ensures.value)
    c.deref-5.ensures.value (c.requires.spread.potential_none both.0 levels.stronger.items)

pub advance_pair-requires-clause-zeros_closed : goal.advance_pair-requires-clause-zeros_closed
advance_pair-requires-clause-zeros_closed g c stale =
    let levels = c.args.levels.now in
    closed_as refl (c.deref-2.ensures.value ∙ (written_back c.relink.new.potential levels.potential.items levels.potential.len (sym c.deref_mut.ensures.len ∙ sym c.relink.auto.potential)) ∙ c.relink.ensures.potential_same stale ∙ c.deref_mut.ensures.value)
    c.deref-5.ensures.value c.deref_mut-3.ensures.value c.requires.spread.zeros

pub advance_pair-requires-clause-ones_closed : goal.advance_pair-requires-clause-ones_closed
advance_pair-requires-clause-ones_closed g c stale =
    let levels = c.args.levels.now in
    closed_as refl (c.deref-2.ensures.value ∙ (written_back c.relink.new.potential levels.potential.items levels.potential.len (sym c.deref_mut.ensures.len ∙ sym c.relink.auto.potential)) ∙ c.relink.ensures.potential_same stale ∙ c.deref_mut.ensures.value)
    c.deref-5.ensures.value c.deref_mut-4.ensures.value c.requires.spread.ones

pub advance-requires-clause-idle : goal.advance-requires-clause-idle
advance-requires-clause-idle g c is =
    let levels = c.args.levels.now in
    let both = c.is_idle-idle.ensures is in
    idle_as refl (c.deref-7.ensures.value ∙ (written_back c.relink.new.definite levels.definite.items levels.definite.len (sym c.deref_mut-2.ensures.len ∙ sym c.relink.auto.definite)) ∙ c.relink.ensures.definite_same both.1 ∙ c.deref_mut-2.ensures.value)
    c.deref-9.ensures.value (c.requires.spread.definite_none both.0 levels.none.items)

pub advance-requires-clause-closed : goal.advance-requires-clause-closed
advance-requires-clause-closed g c stale =
    let levels = c.args.levels.now in
    closed_as refl (c.deref-7.ensures.value ∙ (written_back c.relink.new.definite levels.definite.items levels.definite.len (sym c.deref_mut-2.ensures.len ∙ sym c.relink.auto.definite)) ∙ c.relink.ensures.definite_same stale ∙ c.deref_mut-2.ensures.value)
    c.deref-9.ensures.value c.deref_mut-5.ensures.value (c.requires.spread.stronger c.requires.level)

pub returns-clause-reached : goal.returns-clause-reached
returns-clause-reached g c lane low =
    let whole = g.N.Network.circuit c.args._net.now in
    let devices = c.args.devices.now in
    let from = c.args.from.now in
    let levels = c.args.levels.now in
    let out = c.args.out.now in
    let not_last = λ (pos : 0 < c.args.level - 1). not_lowest c.args.level c.is_lowest-last.result c.is_lowest-last.ensures pos in
    rw ((written_back c.advance.new.reached levels.stronger.items levels.stronger.len (sym c.deref_mut-5.ensures.len ∙ sym c.advance.auto.reached)), (written_back c.advance_pair.new.zeros out.zeros.items out.zeros.len (sym c.deref_mut-3.ensures.len ∙ sym c.advance_pair.auto.zeros)), (written_back c.advance_pair.new.ones out.ones.items out.ones.len (sym c.deref_mut-4.ensures.len ∙ sym c.advance_pair.auto.ones)))
    (reached_more whole devices c.requires.well_formed from levels c.args.level lane out.zeros.items out.ones.items c.advance.new.reached c.advance_pair.new.zeros
    c.advance_pair.new.ones c.requires.level low c.requires.from c.requires.loaded (c.requires.above lane low)
    (record {
      links = c.relink.new.potential;
      linked = linked_as c.args.from.now Potential c.args.level refl refl c.relink.ensures.potential;
      spread = read_as refl c.deref.ensures.value (c.deref-2.ensures.value ∙ (written_back c.relink.new.potential levels.potential.items levels.potential.len (sym c.deref_mut.ensures.len ∙ sym c.relink.auto.potential))) c.deref-4.ensures.value c.deref-5.ensures.value
          c.deref_mut-4.ensures.value c.advance_pair.ensures.ones;
    })
    (record {
      links = c.relink.new.potential;
      linked = linked_as c.args.from.now Potential c.args.level refl refl c.relink.ensures.potential;
      spread = read_as refl c.deref.ensures.value (c.deref-2.ensures.value ∙ (written_back c.relink.new.potential levels.potential.items levels.potential.len (sym c.deref_mut.ensures.len ∙ sym c.relink.auto.potential))) c.deref-3.ensures.value c.deref-5.ensures.value
          c.deref_mut-3.ensures.value c.advance_pair.ensures.zeros;
    })
    (λ pos. record {
      links = c.relink.new.definite;
      linked = linked_as c.args.from.now Definite c.args.level refl refl c.relink.ensures.definite;
      spread = read_as refl c.deref-6.ensures.value (c.deref-7.ensures.value ∙ (written_back c.relink.new.definite levels.definite.items levels.definite.len (sym c.deref_mut-2.ensures.len ∙ sym c.relink.auto.definite))) c.deref-8.ensures.value c.deref-9.ensures.value
          c.deref_mut-5.ensures.value (c.advance.ensures.spread (not_last pos));
    }))

pub returns-clause-spread : goal.returns-clause-spread
returns-clause-spread g c =
    let from = c.args.from.now in
    let levels = c.args.levels.now in
    let out = c.args.out.now in
    let devices = c.args.devices.now in
    let own = levels.own.items in
    let is : c.args.level ≡ c.args.level - 1 + 1 = omega (arith, c.requires.level) in
    let potential : AreLinked (length devices) devices from Potential c.args.level c.relink.new.potential = linked_as c.args.from.now Potential c.args.level refl refl c.relink.ensures.potential in
    let definite : AreLinked (length devices) devices from Definite c.args.level c.relink.new.definite = linked_as c.args.from.now Definite c.args.level refl refl c.relink.ensures.definite in
    let zeros = read_as refl c.deref.ensures.value (c.deref-2.ensures.value ∙ (written_back c.relink.new.potential levels.potential.items levels.potential.len (sym c.deref_mut.ensures.len ∙ sym c.relink.auto.potential))) c.deref-3.ensures.value c.deref-5.ensures.value
    c.deref_mut-3.ensures.value c.advance_pair.ensures.zeros in
    let ones = read_as refl c.deref.ensures.value (c.deref-2.ensures.value ∙ (written_back c.relink.new.potential levels.potential.items levels.potential.len (sym c.deref_mut.ensures.len ∙ sym c.relink.auto.potential))) c.deref-4.ensures.value c.deref-5.ensures.value
    c.deref_mut-4.ensures.value c.advance_pair.ensures.ones in
    let not_last = λ (pos : 0 < c.args.level - 1). not_lowest c.args.level c.is_lowest-last.result c.is_lowest-last.ensures pos in
    let strong = λ (pos : 0 < c.args.level - 1). read_as refl c.deref-6.ensures.value (c.deref-7.ensures.value ∙ (written_back c.relink.new.definite levels.definite.items levels.definite.len (sym c.deref_mut-2.ensures.len ∙ sym c.relink.auto.definite))) c.deref-8.ensures.value c.deref-9.ensures.value
    c.deref_mut-5.ensures.value (c.advance.ensures.spread (not_last pos)) in
    let keeps : StayReached levels.stronger.items c.advance.new.reached =
    subst (λ xs. StayReached xs c.advance.new.reached) c.deref_mut-5.ensures.value c.advance.ensures.kept in
    record {
      potential = linked_as from Potential (c.args.level - 1 + 1) refl (written_back c.relink.new.potential levels.potential.items levels.potential.len (sym c.deref_mut.ensures.len ∙ sym c.relink.auto.potential)) (subst (λ k. AreLinked (length devices) devices from Potential k c.relink.new.potential) is potential);
      definite = linked_as from Definite (c.args.level - 1 + 1) refl (written_back c.relink.new.definite levels.definite.items levels.definite.len (sym c.deref_mut-2.ensures.len ∙ sym c.relink.auto.definite)) (subst (λ k. AreLinked (length devices) devices from Definite k c.relink.new.definite) is definite);
      zeros = closed_as refl (written_back c.relink.new.potential levels.potential.items levels.potential.len (sym c.deref_mut.ensures.len ∙ sym c.relink.auto.potential)) (written_back c.advance.new.reached levels.stronger.items levels.stronger.len (sym c.deref_mut-5.ensures.len ∙ sym c.advance.auto.reached)) (written_back c.advance_pair.new.zeros out.zeros.items out.zeros.len (sym c.deref_mut-3.ensures.len ∙ sym c.advance_pair.auto.zeros))
          (closed_more devices c.relink.new.potential levels.stronger.items c.advance.new.reached c.advance_pair.new.zeros keeps zeros.closed);
      ones = closed_as refl (written_back c.relink.new.potential levels.potential.items levels.potential.len (sym c.deref_mut.ensures.len ∙ sym c.relink.auto.potential)) (written_back c.advance.new.reached levels.stronger.items levels.stronger.len (sym c.deref_mut-5.ensures.len ∙ sym c.advance.auto.reached)) (written_back c.advance_pair.new.ones out.ones.items out.ones.len (sym c.deref_mut-4.ensures.len ∙ sym c.advance_pair.auto.ones))
          (closed_more devices c.relink.new.potential levels.stronger.items c.advance.new.reached c.advance_pair.new.ones keeps ones.closed);
      stronger = λ pos. closed_as refl (written_back c.relink.new.definite levels.definite.items levels.definite.len (sym c.deref_mut-2.ensures.len ∙ sym c.relink.auto.definite)) refl (written_back c.advance.new.reached levels.stronger.items levels.stronger.len (sym c.deref_mut-5.ensures.len ∙ sym c.advance.auto.reached)) (strong pos).closed;
      potential_none = λ le. absurd (omega (arith, le, c.requires.scale, c.requires.level));
      definite_none = λ le. absurd (omega (arith, le, c.requires.scale, c.requires.level));
    }

pub relink-requires-clause-unused : goal.relink-requires-clause-unused
relink-requires-clause-unused g c stale =
    let levels = c.args.levels.now in
    let holds = c.requires.loaded.holds in
    some_carried (g.N.Network.circuit c.args._net.now) c.args.devices.now c.args.level c.requires.some (holds.carried c.args.level (omega (arith, c.requires.scale))
    (read_false levels.carried.items c.args.level c.index-fresh.result.now (omega (arith, holds.room.carried_room, c.requires.scale)) c.index-fresh.ensures stale))

pub advance_pair-requires-clause-given : goal.advance_pair-requires-clause-given
advance_pair-requires-clause-given g c stale =
    let levels = c.args.levels.now in
    let holds = c.requires.loaded.holds in
    subst (λ xs. IsGivenByNone xs c.args.level) (sym c.deref.ensures.value) (holds.given c.args.level (omega (arith, c.requires.scale))
    (read_false levels.given.items c.args.level c.index-given.result.now (omega (arith, holds.room.given_room, c.requires.scale)) c.index-given.ensures stale))

pub advance-requires-clause-given : goal.advance-requires-clause-given
advance-requires-clause-given g c stale =
    let levels = c.args.levels.now in
    let holds = c.requires.loaded.holds in
    subst (λ xs. IsGivenByNone xs c.args.level) (sym c.deref-6.ensures.value) (holds.given c.args.level (omega (arith, c.requires.scale))
    (read_false levels.given.items c.args.level c.index-given.result.now (omega (arith, holds.room.given_room, c.requires.scale)) c.index-given.ensures stale))
