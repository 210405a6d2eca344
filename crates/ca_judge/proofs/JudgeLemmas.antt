-- What the fields of a judge keep.
use Rattle.std.proofs.Common.{◌≡◌, ◌↔◌, ◌<◌, ◌^◌, ℕ, List, length, Bool, true, false, Option, None, Some, sym}
use Rattle.std.proofs.Common.{◌∙◌}
use Rattle.std.proofs.Common.{ap, subst, arith}
use Rattle.std.specs.Prelude.{slice_index_or, IsSome, IsTrue}
use Rattle.std.specs.List.{All, Any, Contains}
use Rattle.std.proofs.lemmas.List.Elements.{Contains-get_or}
use Rattle.ca_net.specs.declared.trit.Trit.{Trit}
use Rattle.ca_flat.specs.declared.chip_defect.ChipDefect.{ChipDefect}
use Rattle.ca_flat.specs.Chip.{Chip, IsDefectIn, IsChipDefect, count_of}
use Rattle.ca_net.specs.Circuit.{IsWellFormed}
use Rattle.ca_flat.specs.Flat.{flat}
use Rattle.ca_flat.specs.Pair.{IsOpenPair}
use Rattle.ca_flat.specs.Waves.{IsFlatChip}
use Rattle.ca_sim.specs.Seen.{Seen, IsExact, AreNetWaves}
use Rattle.ca_view.specs.Linked.{IsAim, IsLinked, IsPinned, place_in}
use Rattle.ca_sim.specs.Simulator.{Simulator, IsFresh, KeepsAim, KeepsPair}
use Rattle.ca_guide.specs.Seen as guide
use Rattle.ca_view.specs.NetLists.{NetLists, AreNetsOf}
use Rattle.ca_guide.specs.Guide.{Guided, HasRoomFor, IsSupport, ShowsPair}
use Rattle.ca_guide.specs.Guide as guided
use Rattle.ca_guide.specs.declared.guide.Step.{Step}
use Rattle.ca_guide.specs.declared.guide.Step.TheVariants.{Branch, RuledOut}
use Rattle.ca_search.specs.declared.judge.Standing.{Standing}
use Rattle.ca_search.specs.declared.judge.Standing.TheVariants.{Shown, Settled, Open}
use Rattle.ca_search.specs.Judged.{with_pair, IsStanding, IsStep, IsOpenFor, IsShownFor, IsFlatFor}
use Rattle.ca_judge.specs.code.Ends.{LooksSo, is_opposite_at}
use Rattle.ca_judge.specs.code.Outputs.{AreObservedBelow}
use Rattle.ca_judge.specs.GuideSeen.{guide_seen}
use Rattle.ca_judge.specs.ChipJudge.{CanBeJudged, judged_of}
use Rattle.ca_judge.specs.code.ChipJudge.{IsChipJudge, IsGuidedTo}
use Rattle.ca_judge.specs.Attempt.{IsAimed}
use Rattle.ca_judge.proofs.StandingLemmas.{SeesBoth, StandsSo, stands_so, shown_so, so_shown}
use Rattle.ca_judge.proofs.StepLemmas.{IsSearchStep, search_step}
use Rattle.ca_judge.proofs.SeenLemmas.{pair_again, bits_count, shows_pair}

-- the judge is kept where the chip and the defect stay
pub judge_kept : (old new : Simulator) (chip : Chip) (lists : NetLists) (rows_chip : Chip) (guided : Guided)
    (outputs : List ℕ) (defect : Option ChipDefect) → KeepsAim old new
    → IsChipJudge old.seen.chip old.seen.aim chip lists rows_chip guided outputs defect
    → IsChipJudge new.seen.chip new.seen.aim chip lists rows_chip guided outputs defect
judge_kept old new chip lists rows_chip guided outputs defect keeps is =
    subst (λ c. IsChipJudge c new.seen.aim chip lists rows_chip guided outputs defect) (sym keeps.chip.chip)
    (subst (λ a. IsChipJudge old.seen.chip a chip lists rows_chip guided outputs defect) (sym keeps.aim) is)

-- what a search is given changes with the pair alone
pub judged_kept : (old new : Simulator) (pair : List Trit) → new.seen.pair ≡ pair → KeepsAim old new
    → judged_of new.seen ≡ with_pair (judged_of old.seen) pair
judged_kept old new pair is keeps =
    ap (λ c. record { chip = c; places = new.seen.places; aim = new.seen.aim; pair = new.seen.pair })
    keeps.chip.chip
    ∙ ap (λ at. record { chip = old.seen.chip; places = at; aim = new.seen.aim; pair = new.seen.pair })
    keeps.chip.places
    ∙ ap (λ a. record { chip = old.seen.chip; places = old.seen.places; aim = a; pair = new.seen.pair })
    keeps.aim
    ∙ ap (λ p. record { chip = old.seen.chip; places = old.seen.places; aim = old.seen.aim; pair = p }) is

-- what the guide asks for a step
pub record IsAsked (chip : Chip) (lists : NetLists) (guide_is : Guided) (d : ChipDefect) (seen : Seen) : Type 0 where
  pub linked : AreNetsOf chip lists
  pub instance : d.instance < count_of chip
  pub support : IsSupport chip d guide_is.support
  pub covers : guide.Covers lists (guide_seen seen)
  pub is_open : IsOpenPair chip d (guide.pair_of (guide_seen seen))

module _ (seen : Seen) (chip : Chip) (lists : NetLists) (rows_chip : Chip) (guide_is : Guided) (outputs : List ℕ)
    (defect : Option ChipDefect) (is : IsChipJudge seen.chip seen.aim chip lists rows_chip guide_is outputs defect) where
  -- the outputs are those of the chip
  outputs_of : (net : ℕ) → Contains outputs net ↔ Contains seen.chip.outputs net
  outputs_of net = (
    (λ at. (is.nets.observed net).0 ((is.outputs_are.each net).0 at).1),
    (λ at. (is.outputs_are.each net).1 (
      subst (λ n. net < n) (sym is.nets.onward_count) (is.chip_is.observed net at),
      (is.nets.observed net).1 at,
    )),
  )

  pub outputs_within : All (λ net. net < length seen.chip.nets) outputs
  outputs_within k d lt = subst (λ n. slice_index_or outputs k d < n) is.nets.onward_count
      ((is.outputs_are.each (slice_index_or outputs k d)).0 (Contains-get_or outputs k d lt)).0

  -- what an attempt begins with
  pub aimed_for : (d : ChipDefect) → defect ≡ Some d → IsAimed chip lists guide_is d
  aimed_for d e =
      let to = subst (IsGuidedTo seen.chip guide_is) e is.guided_to in
      subst (λ c. IsAimed c lists guide_is d) (sym is.same) (record {
        nets = is.nets;
        room = is.room;
        support = to.1;
        instance = to.0.known;
        few = is.judged.few;
        good_is = is.judged.good_is;
        faulty_is = is.judged.faulty_are d to.0;
      })

  module _ (exact : IsExact seen) where
    -- the flat networks for the defect, and their waves
    sees_both : (d : ChipDefect) → defect ≡ Some d → SeesBoth is.rank d seen
    sees_both d e =
        let in_chip : IsDefectIn seen.chip d = (subst (IsGuidedTo seen.chip guide_is) e is.guided_to).0 in
        let aimed : seen.aim ≡ Some d = is.aim_is ∙ e in
        let formed = is.judged.faulty_are d in_chip in
        record {
          good_flat = record { chip_is = is.chip_is; defect_is = tt; formed = is.judged.good_is };
          faulty_flat = record { chip_is = is.chip_is; defect_is = in_chip; formed = formed };
          good_are = exact.good is.judged.good_is;
          faulty_are = subst (λ a. AreNetWaves seen.chip a seen.pair seen.faulty) aimed
              (exact.faulty (subst (λ a. IsWellFormed (flat seen.chip a)) (sym aimed) formed));
        }

    flat_chip : (d : ChipDefect) → defect ≡ Some d → IsFlatChip seen.chip is.rank d
    flat_chip d e =
        let sees = sees_both d e in
        record {
          chip_is = is.chip_is;
          defect_is = sees.faulty_flat.defect_is;
          good_is = sees.good_flat.formed;
          faulty_is = sees.faulty_flat.formed;
        }

    so_standing : (d : ChipDefect) (standing : Standing) → StandsSo seen.chip d seen.pair standing
        → IsStanding (record { chip = seen.chip; places = seen.places; aim = Some d; pair = seen.pair }) standing
    so_standing d Shown so = so
    so_standing d Settled so = so
    so_standing d Open so = so

    stands_for : (aim : Option ChipDefect) → defect ≡ aim → IsSome aim → (standing : Standing)
        → LooksSo seen outputs standing → IsStanding (record { chip = seen.chip; places = seen.places; aim = aim; pair = seen.pair }) standing
    stands_for None e some standing looks = absurd (let clash : false ≡ true = some in cc)
    stands_for (Some d) e some standing looks = so_standing d standing
        (stands_so is.rank d seen (sees_both d e) outputs outputs_of (λ net at. is.chip_is.observed net at) standing looks)

    pub judge_stands : IsSome seen.aim → (standing : Standing) → LooksSo seen outputs standing
        → IsStanding (judged_of seen) standing
    judge_stands some standing looks = stands_for seen.aim (sym is.aim_is) some standing looks

    flat_for : (aim : Option ChipDefect) → defect ≡ aim → IsFlatFor seen.chip aim
    flat_for None e = tt
    flat_for (Some d) e = (is.rank, flat_chip d e)

    -- the flat networks are networks
    pub judge_is_flat : IsFlatFor (judged_of seen).chip (judged_of seen).aim
    judge_is_flat = flat_for seen.aim (sym is.aim_is)

    shown_for : (aim : Option ChipDefect) → defect ≡ aim → IsSome aim
        → Any (λ net. is_opposite_at seen net ≡ true) outputs ↔ IsShownFor seen.chip aim seen.pair
    shown_for None e some = absurd (let clash : false ≡ true = some in cc)
    shown_for (Some d) e some = (
      (λ any. shown_so is.rank d seen (sees_both d e) outputs outputs_of (λ net at. is.chip_is.observed net at) any),
      (λ shown. so_shown is.rank d seen (sees_both d e) outputs outputs_of (λ net at. is.chip_is.observed net at) shown),
    )

    -- a pair is shown where it looks so
    pub judge_shows : IsSome seen.aim → (b : Bool) → (IsTrue b ↔ Any (λ net. is_opposite_at seen net ≡ true) outputs)
        → IsTrue b ↔ IsShownFor (judged_of seen).chip (judged_of seen).aim (judged_of seen).pair
    judge_shows some b looks =
        let stands = shown_for seen.aim (sym is.aim_is) some in
        ((λ t. stands.0 (looks.0 t)), (λ shown. looks.1 (stands.1 shown)))

    pub asks : (d : ChipDefect) → defect ≡ Some d → IsOpenFor seen.chip seen.aim seen.pair
        → IsAsked chip lists guide_is d seen
    asks d e is_open = subst (λ c. IsAsked c lists guide_is d seen) (sym is.same) (record {
      linked = is.nets;
      instance = (sees_both d e).faulty_flat.defect_is.known;
      support = (subst (IsGuidedTo seen.chip guide_is) e is.guided_to).1;
      covers = record {
        good = exact.whole.good ∙ sym is.nets.onward_count;
        faulty = exact.whole.faulty ∙ sym is.nets.onward_count;
        bits =
            let bits = bits_count seen in let whole = exact.whole.bits in
            let same = ap length is.nets.inputs in omega arith;
      };
      is_open = subst (IsOpenPair seen.chip d) (sym (pair_again seen))
          (subst (λ a. IsOpenFor seen.chip a seen.pair) (is.aim_is ∙ e) is_open);
    })

    so_step : (d : ChipDefect) (step : Step) → IsSearchStep seen.chip d seen.pair step
        → IsStep (record { chip = seen.chip; places = seen.places; aim = Some d; pair = seen.pair }) step
    so_step d (Branch bit first) so = so
    so_step d RuledOut so = so

    pub judge_steps : (d : ChipDefect) → defect ≡ Some d → IsOpenFor seen.chip seen.aim seen.pair → (step : Step)
        → (ShowsPair chip d (guide_seen seen) → guided.IsStep chip d (guide.pair_of (guide_seen seen)) step)
        → IsStep (judged_of seen) step
    judge_steps d e is_open step each =
        let aimed : seen.aim ≡ Some d = is.aim_is ∙ e in
        let sees = sees_both d e in
        let at_core = subst (λ c. ShowsPair c d (guide_seen seen)
        → guided.IsStep c d (guide.pair_of (guide_seen seen)) step) is.same each in
        subst (λ a. IsStep (record { chip = seen.chip; places = seen.places; aim = a; pair = seen.pair }) step) (sym aimed)
        (so_step d step (subst (λ p. IsSearchStep seen.chip d p step) (pair_again seen)
        (search_step seen.chip is.rank d (flat_chip d e) (guide.pair_of (guide_seen seen)) guide_is.support
        (subst (IsGuidedTo seen.chip guide_is) e is.guided_to).1
        (subst (IsOpenPair seen.chip d) (sym (pair_again seen)) (subst (λ a. IsOpenFor seen.chip a seen.pair) aimed is_open))
        step (λ good faulty. at_core (shows_pair d seen exact.whole sees.good_are sees.faulty_are good faulty)))))

    -- an open pair has a defect
    pub open_aims : defect ≡ None → IsOpenFor seen.chip seen.aim seen.pair → ⊥
    open_aims e is_open = subst (λ a. IsOpenFor seen.chip a seen.pair) (is.aim_is ∙ e) is_open

-- a judge begins without a defect
pub judge_begins : (core : Chip) (places : List ℕ) (number_of : ℕ → ℕ) (sim : Simulator) (chip : Chip)
    (lists : NetLists) (rows_chip : Chip) (guide_is : Guided) (outputs : List ℕ) → IsFresh core places sim
    → IsLinked core (place_in places) number_of → CanBeJudged core → chip ≡ core → AreNetsOf core lists → rows_chip ≡ core
    → HasRoomFor lists guide_is → AreObservedBelow lists.observed (length lists.onward) outputs
    → IsChipJudge sim.seen.chip sim.seen.aim chip lists rows_chip guide_is outputs None
judge_begins core places number_of sim chip lists rows_chip guide_is outputs fresh linked judged one nets same room are =
    subst (λ c. IsChipJudge c sim.seen.aim chip lists rows_chip guide_is outputs None) (sym fresh.chip_is) (record {
      judged = judged;
      same = one;
      nets = nets;
      rank = place_in places;
      chip_is = linked.is_chip;
      rows_are = same;
      room = room;
      outputs_are = are;
      aim_is = fresh.aim;
      guided_to = tt;
    })

-- its nets have numbers of four bytes
pub few_onward : (core : Chip) (lists : NetLists) → IsPinned core → AreNetsOf core lists → length lists.onward < 2 ^ 32
few_onward core lists pinned nets = subst (λ n. n < 2 ^ 32) (sym nets.onward_count) pinned.few_nets

-- a defect that may be aimed at is one of the chip
pub aim_in_chip : (core chip : Chip) (place_of : ℕ → ℕ) (defect : Option ChipDefect) → chip ≡ core
    → IsAim core place_of defect → IsChipDefect chip defect
aim_in_chip core chip place_of None same aim = tt
aim_in_chip core chip place_of (Some d) same aim = subst (λ c. IsDefectIn c d) (sym same) aim.defect_is

-- another defect is aimed at
pub judge_aims : (old new : Simulator) (chip : Chip) (lists : NetLists) (rows_chip : Chip)
    (guide_is guide_new : Guided) (outputs : List ℕ) (before defect : Option ChipDefect)
    → IsChipJudge old.seen.chip old.seen.aim chip lists rows_chip guide_is outputs before → KeepsPair old new
    → new.seen.aim ≡ defect → HasRoomFor lists guide_new → IsGuidedTo chip guide_new defect
    → IsChipJudge new.seen.chip new.seen.aim chip lists rows_chip guide_new outputs defect
judge_aims old new chip lists rows_chip guide_is guide_new outputs before defect is keeps aimed room guided_to =
    subst (λ c. IsChipJudge c new.seen.aim chip lists rows_chip guide_new outputs defect) (sym keeps.chip.chip) (record {
      judged = is.judged;
      same = is.same;
      nets = is.nets;
      rank = is.rank;
      chip_is = is.chip_is;
      rows_are = is.rows_are;
      room = room;
      outputs_are = is.outputs_are;
      aim_is = aimed;
      guided_to = subst (λ c. IsGuidedTo c guide_new defect) is.same guided_to;
    })
