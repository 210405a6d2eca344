-- Marks of places, and values of nets, that change one after another.
use Rattle.std.proofs.Common.{◌≡◌, ◌≢◌, ℕ, ◌+◌, ◌<◌, ◌⊎◌, Bool, true, false, List, length, inl, inr, refl, sym, ◌∙◌, ap, subst, arith}
use Rattle.std.proofs.Common.{get_or, slice_set, below_more, ◌↔◌}
use Rattle.std.proofs.lemmas.Bool.{cases_eq}
use Rattle.std.proofs.lemmas.List.{get_or_default, get_or-set_same, get_or-set_other, length-set}
use Rattle.std.proofs.lemmas.List.Elements.{All-contains, All-from_get_or}
use Rattle.ca_net.specs.declared.trit.Trit.{Trit}
use Rattle.ca_net.specs.declared.trit.Trit.TheVariants.{X}
use Rattle.ca_net.specs.State.{value_at}
use Rattle.ca_flat.specs.Chip.{Chip, outputs_at, output_net, count_of, IsChip}
use Rattle.ca_view.specs.Linked.{Reads, AreReaders}
use Rattle.ca_places.specs.declared.place_set.PlaceSet.{PlaceSet}
use Rattle.ca_sweep.specs.declared.values.Values.{Values}
use Rattle.ca_places.specs.PlaceSet.{HoldsUpTo}
use Rattle.ca_sweep.specs.code.Changes.{IsDue, IsMarked, Changes, IsPut, IsOutputBelow, IsWrittenTo}

-- a mark that was read
pub mark_read : (marks : List Bool) (place : ℕ) (read : Bool) → place < length marks → read ≡ get_or marks place read → read ≡ true → get_or marks place false ≡ true
mark_read marks place read within at is = get_or_default marks place false read within ∙ sym at ∙ is

-- the first `end` readers are due, and all that was, and nothing else
pub record IsMarkedTo (chip : Chip) (place_of : ℕ → ℕ) (net : ℕ) (readers : List ℕ) (end : ℕ) (old new : PlaceSet) : Type 0 where
  pub room : (count : ℕ) → HoldsUpTo old count → HoldsUpTo new count
  pub kept : (place : ℕ) → IsDue old place → IsDue new place
  pub done : (k : ℕ) → k < end → IsDue new (place_of (get_or readers k 0))
  pub added : (place : ℕ) → IsDue new place → IsDue old place ⊎ ((w : ℕ) × Reads chip w net × (place_of w ≡ place))

module _ (chip : Chip) (place_of : ℕ → ℕ) (net : ℕ) (readers : List ℕ) where
  pub marked_none : (due : PlaceSet) → IsMarkedTo chip place_of net readers 0 due due
  marked_none due = record { room = λ count holds. holds; kept = λ place is. is; done = λ k less. absurd (omega arith); added = λ place is. inl is }

  pub marked_more : (end u : ℕ) (old mid new : PlaceSet) → IsMarkedTo chip place_of net readers end old mid → get_or readers end 0 ≡ u → Reads chip u net
      → IsDue new (place_of u) → ((other : ℕ) → other ≢ place_of u → IsDue new other ↔ IsDue mid other) → ((count : ℕ) → HoldsUpTo mid count → HoldsUpTo new count)
      → IsMarkedTo chip place_of net readers (end + 1) old new
  marked_more end u old mid new so_far at reads here others room = record {
    room = λ count holds. room count (so_far.room count holds);
    kept = λ place due. stays place (so_far.kept place due);
    done = below_more (λ k. IsDue new (place_of (get_or readers k 0))) end (λ k less. stays (place_of (get_or readers k 0)) (so_far.done k less))
        (subst (λ x. IsDue new (place_of x)) (sym at) here);
    added = λ place due. elim (cases_eq place (place_of u)) [
      | inl e ↦ inr (u, reads, sym e)
      | inr other ↦ so_far.added place ((others place other).0 due)
    ];
  }
    where
      stays : (place : ℕ) → IsDue mid place → IsDue new place
      stays place due = elim (cases_eq place (place_of u)) [
        | inl e ↦ subst (IsDue new) (sym e) here
        | inr other ↦ (others place other).1 due
      ]

  pub marked_all : (end : ℕ) (old new : PlaceSet) → AreReaders chip net readers → end ≡ length readers → IsMarkedTo chip place_of net readers end old new
      → IsMarked chip place_of net old new
  marked_all end old new are all marked = record {
    room = marked.room;
    kept = marked.kept;
    readers = λ w reads. All-contains (λ x. IsDue new (place_of x)) readers w
        (All-from_get_or (λ x. IsDue new (place_of x)) readers 0 (λ k less. marked.done k (omega (arith, all)))) (are.each w reads);
    added = marked.added;
  }

module _ (chip : Chip) (place_of : ℕ → ℕ) where
  pub changes_none : (given : ℕ → Type 0) (values : Values) → Changes chip place_of given values values
  changes_none given values = record {
    nets = refl;
    places = λ count holds. holds;
    changed = λ net. inl refl;
    others = λ net none. refl;
    kept = λ place due. due;
    readers = λ w net reads. inl refl;
    added = λ place due. inl due;
  }

  -- one change after another
  pub changes_then : (one other both : ℕ → Type 0) (old mid new : Values) → Changes chip place_of one old mid → Changes chip place_of other mid new
      → ((net : ℕ) → one net → both net) → ((net : ℕ) → other net → both net) → Changes chip place_of both old new
  changes_then one other both old mid new first then from_one from_other = record {
    nets = then.nets ∙ first.nets;
    places = λ count holds. then.places count (first.places count holds);
    changed = λ net. elim (then.changed net) [
      | inl same ↦ elim (first.changed net) [ inl before ↦ inl (same ∙ before) | inr is ↦ inr (from_one net is) ]
      | inr is ↦ inr (from_other net is)
    ];
    others = λ net none. then.others net (λ is. none (from_other net is)) ∙ first.others net (λ is. none (from_one net is));
    kept = λ place due. then.kept place (first.kept place due);
    readers = λ w net reads. elim (then.readers w net reads) [
      | inl same ↦ elim (first.readers w net reads) [ inl before ↦ inl (same ∙ before) | inr due ↦ inr (then.kept (place_of w) due) ]
      | inr due ↦ inr due
    ];
    added = λ place due. elim (then.added place due) [
      | inl before ↦ elim (first.added place before) [ inl was ↦ inl was | inr more ↦ inr (more.0, more.1, from_one more.1 more.2, more.3, more.4) ]
      | inr more ↦ inr (more.0, more.1, from_other more.1 more.2, more.3, more.4)
    ];
  }

  -- a net is given another value
  pub put_new : (net : ℕ) (value : Trit) (old new : Values) → net < length old.values → new.values ≡ slice_set old.values net value
      → IsMarked chip place_of net old.due new.due → IsPut chip place_of net value old new
  put_new net value old new within is marked = record {
    here = ap (λ values. value_at values net) is ∙ get_or-set_same old.values net value X within;
    changes = record {
      nets = ap length is ∙ length-set old.values net value;
      places = marked.room;
      changed = λ other. elim (cases_eq other net) [ inl e ↦ inr e | inr apart ↦ inl (others other apart) ];
      others = others;
      kept = marked.kept;
      readers = λ w other reads. elim (cases_eq other net) [
        | inl e ↦ inr (marked.readers w (subst (Reads chip w) e reads))
        | inr apart ↦ inl (others other apart)
      ];
      added = λ place due. elim (marked.added place due) [
        | inl before ↦ inl before
        | inr reader ↦ inr (reader.0, net, refl, reader.1, reader.2)
      ];
    };
  }
    where
      others : (other : ℕ) → other ≢ net → value_at new.values other ≡ value_at old.values other
      others other apart = ap (λ values. value_at values other) is ∙ get_or-set_other old.values net other value X apart

  -- a net has the value already
  pub put_same : (net : ℕ) (value : Trit) (values : Values) → value_at values.values net ≡ value → IsPut chip place_of net value values values
  put_same net value values is = record { here = is; changes = changes_none (λ other. other ≡ net) values }

  module _ (is_chip : IsChip chip place_of) (u : ℕ) (known : u < count_of chip) (outputs : ℕ → Trit) where
    pub written_none : (values : Values) → IsWrittenTo chip place_of u 0 outputs values values
    written_none values = record { written = λ output less. absurd (omega arith); changes = changes_none (IsOutputBelow chip u 0) values }

    -- two output pins of an instance are on two nets
    pub own_apart : (output other : ℕ) → output < outputs_at chip u → other < outputs_at chip u → output_net chip u output ≡ output_net chip u other → output ≡ other
    own_apart output other within other_within e = (is_chip.one_driver (output_net chip u other) (record { instance = u; output = output; known = known; within = within; on = e })
        (record { instance = u; output = other; known = known; within = other_within; on = refl })).1

    -- the net of a later output pin has its value yet
    pub still : (end : ℕ) (old mid : Values) → end < outputs_at chip u → IsWrittenTo chip place_of u end outputs old mid
        → value_at mid.values (output_net chip u end) ≡ value_at old.values (output_net chip u end)
    still end old mid within so_far = so_far.changes.others (output_net chip u end) (λ below.
        let less = below.within in let same = own_apart below.output end (omega arith) within below.on in absurd (omega arith))

    pub written_more : (end net : ℕ) (value : Trit) (old mid new : Values) → end < outputs_at chip u → net ≡ output_net chip u end → value ≡ outputs end
        → IsWrittenTo chip place_of u end outputs old mid → IsPut chip place_of net value mid new → IsWrittenTo chip place_of u (end + 1) outputs old new
    written_more end net value old mid new within net_is value_is so_far put = record {
      written = below_more (λ output. value_at new.values (output_net chip u output) ≡ outputs output) end
          (λ output less. put.changes.others (output_net chip u output) (λ e. let same = own_apart output end (omega arith) within (e ∙ net_is) in absurd (omega arith)) ∙ so_far.written output less)
          (subst (λ n. value_at new.values n ≡ outputs end) net_is (put.here ∙ value_is));
      changes = changes_then (IsOutputBelow chip u end) (λ other. other ≡ net) (IsOutputBelow chip u (end + 1)) old mid new so_far.changes put.changes
          (λ other below. record { output = below.output; within = (let less = below.within in omega arith); on = below.on })
          (λ other e. record { output = end; within = omega arith; on = sym net_is ∙ sym e });
    }
