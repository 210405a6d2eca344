-- The values behind an instance, place by place.
use Rattle.std.proofs.Common.{◌≡◌, ℕ, ◌+◌, ◌<◌, ◌≤◌, ◌⊎◌, inl, inr, refl, sym, ◌∙◌, ap, subst, arith, None, Some}
use Rattle.std.proofs.lemmas.Bool.{cases_eq, cases_lt}
use Rattle.ca_net.specs.declared.trit.Trit.{Trit}
use Rattle.ca_net.specs.declared.scale.TheConstants.{OUTPUT_NET}
use Rattle.ca_net.specs.declared.node.NodeKind.TheVariants.{Input, Storage}
use Rattle.ca_net.specs.State.{value_at}
use Rattle.ca_flat.specs.Chip.{Chip, cell_at, inputs_at, outputs_at, net_of, output_net, count_of, net_kind, Drives}
use Rattle.ca_flat.specs.Chain.{IsReachedFrom}
use Rattle.ca_flips.specs.Static.{EndsByLast}
use Rattle.ca_flips.specs.Flips.{IsAfter, vector_at, KeepsGood, IsEvaluated, AreSwept}
use Rattle.ca_flips.proofs.ReachLemmas.{reached_own, after_reached, after_other}
use Rattle.ca_flips.proofs.VectorLemmas.{vector_same}
use Rattle.ca_view.specs.Linked.{IsLinked, IsPlaced}
use Rattle.ca_sweep.specs.declared.values.Values.{Values}
use Rattle.ca_sweep.specs.code.Changes.{IsDue, AreRoomy, IsOutputBelow, IsWritten, IsEvaluatedOut}
use Rattle.ca_sweep.specs.code.Changes.{IsEvaluatedAt, IsSweptTo}
use Rattle.ca_places.specs.PlaceSet.{IsNext}
use Rattle.ca_sweep.specs.code.Held.{IsHeld}

module _ (chip : Chip) (place_of number_of : ℕ → ℕ) (linked : IsLinked chip place_of number_of) where
  abbrev driver : (w : ℕ) → w < count_of chip → (net : ℕ) → IsOutputBelow chip w (outputs_at chip w) net → Drives chip net
  driver w known net out = record { instance = w; output = out.output; known = known; within = out.within; on = out.on }

  -- no input net is an output net of an instance
  pub not_input : (w net : ℕ) → w < count_of chip → net_kind chip net ≡ Input → IsOutputBelow chip w (outputs_at chip w) net → ⊥
  not_input w net known kind out =
      let is = linked.is_chip.drives net (driver w known net out) in
      let e : Input ≡ Storage OUTPUT_NET = sym kind ∙ is in cc

  -- an instance that reads an output net of another one comes later
  pub later : (w v pin : ℕ) → w < count_of chip → v < count_of chip → pin < inputs_at chip v → IsOutputBelow chip w (outputs_at chip w) (net_of chip v pin) → place_of w < place_of v
  later w v pin known v_known within out = linked.is_chip.ranked v pin v_known within (driver w known (net_of chip v pin) out)

  -- an output net of one instance is none of another one
  pub not_other : (w v output : ℕ) → w < count_of chip → v < count_of chip → (v ≡ w → ⊥) → output < outputs_at chip v → IsOutputBelow chip w (outputs_at chip w) (output_net chip v output) → ⊥
  not_other w v output known v_known apart within out = apart (linked.is_chip.one_driver (output_net chip v output)
      (record { instance = v; output = output; known = v_known; within = within; on = refl }) (driver w known (output_net chip v output) out)).0

  module _ (u : ℕ) (known : u < count_of chip) (goods outputs : ℕ → Trit) where
    -- the output nets of u are given their values
    pub swept_begins : (old new : Values) → AreRoomy chip old → ((net : ℕ) → value_at old.values net ≡ goods net) → ((place : ℕ) → IsDue old.due place → ⊥)
        → IsWritten chip place_of u outputs old new → IsSweptTo chip place_of u goods outputs (place_of u + 1) new
    swept_begins old new room good none written = record {
      room = record { nets = written.changes.nets ∙ room.nets; places = written.changes.places (count_of chip + 1) room.places };
      inputs = λ net within kind. written.changes.others net (not_input u net known kind) ∙ good net;
      given = written.written;
      before = λ w w_known apart less. inl (record {
        pins = λ pin within. written.changes.others (net_of chip w pin) (λ out. let l = later u w pin known w_known within out in absurd (omega arith)) ∙ good (net_of chip w pin);
        outputs = own w w_known apart;
      });
      ahead = λ w output w_known apart from within. own w w_known apart output within;
      waiting = λ w pin w_known apart from within. elim (written.changes.readers w (net_of chip w pin) (record { known = w_known; pin = pin; within = within; on = refl })) [
        | inl same ↦ inl (same ∙ good (net_of chip w pin))
        | inr due ↦ inr due
      ];
      due = λ at due. elim (written.changes.added at due) [
        | inl before ↦ absurd (none at before)
        | inr more ↦
            let reads = more.3 in
            let out = more.2 in (
              more.0,
              record {
                known = reads.known;
                pin = reads.pin;
                within = reads.within;
                reached = subst (λ n. IsReachedFrom chip u n) (out.on ∙ sym reads.on) (reached_own chip u out.output out.within);
              },
              more.4,
            )
      ];
      changed = λ net. elim (written.changes.changed net) [ inl same ↦ inl (same ∙ good net) | inr out ↦ inr (inl out) ];
    }
      where
        own : (w : ℕ) → w < count_of chip → (w ≡ u → ⊥) → (output : ℕ) → output < outputs_at chip w → value_at new.values (output_net chip w output) ≡ goods (output_net chip w output)
        own w w_known apart output within = written.changes.others (output_net chip w output) (not_other u w output known w_known apart within) ∙ good (output_net chip w output)

    -- where nothing is due from one place on and before another, the instances in between keep good values
    pub swept_skips : (place end : ℕ) (values : Values) → IsSweptTo chip place_of u goods outputs place values → place ≤ end
        → ((at : ℕ) → place ≤ at → at < end → IsDue values.due at → ⊥) → IsSweptTo chip place_of u goods outputs end values
    swept_skips place end values so_far least none = record {
      room = so_far.room;
      inputs = so_far.inputs;
      given = so_far.given;
      before = λ w w_known apart less. elim (cases_lt (place_of w) place) [
        | inl low ↦ so_far.before w w_known apart low
        | inr high ↦ inl (record {
          pins = λ pin within. elim (so_far.waiting w pin w_known apart high within) [
            | inl good ↦ good
            | inr due ↦ absurd (none (place_of w) high less due)
          ];
          outputs = λ output within. so_far.ahead w output w_known apart high within;
        })
      ];
      ahead = λ w output w_known apart from within. so_far.ahead w output w_known apart (omega arith) within;
      waiting = λ w pin w_known apart from within. so_far.waiting w pin w_known apart (omega arith) within;
      due = so_far.due;
      changed = so_far.changed;
    }

    -- the instance at a place is evaluated
    module _ (place w : ℕ) (old new : Values) (so_far : IsSweptTo chip place_of u goods outputs place old) (is_due : IsDue old.due place)
        (placed : IsPlaced chip place_of w) (at : place_of w ≡ place) (evaluated : IsEvaluatedOut chip place_of w old new) where
      same_as : (v : ℕ) → v < count_of chip → place_of v ≡ place → v ≡ w
      same_as v v_known v_at = linked.apart v w (record { known = v_known; placed = (let p = placed.placed in omega (arith, at, v_at)) }) placed (v_at ∙ sym at)

      following : IsAfter chip u w
      following = let found = so_far.due place is_due in subst (IsAfter chip u) (same_as found.0 found.1.known found.2) found.1

      other : w ≡ u → ⊥
      other = after_other chip place_of linked.is_chip u known w following

      others : (net : ℕ) → (IsOutputBelow chip w (outputs_at chip w) net → ⊥) → value_at new.values net ≡ value_at old.values net
      others = evaluated.written.changes.others

      -- the pins of an instance that isn't later keep their values
      pins_still : (v : ℕ) → v < count_of chip → place_of v ≤ place → (pin : ℕ) → pin < inputs_at chip v → value_at new.values (net_of chip v pin) ≡ value_at old.values (net_of chip v pin)
      pins_still v v_known least pin within = others (net_of chip v pin) (λ out. let l = later w v pin placed.known v_known within out in absurd (omega (arith, at)))

      outputs_still : (v : ℕ) → v < count_of chip → (v ≡ w → ⊥) → (output : ℕ) → output < outputs_at chip v → value_at new.values (output_net chip v output) ≡ value_at old.values (output_net chip v output)
      outputs_still v v_known apart output within = others (output_net chip v output) (not_other w v output placed.known v_known apart within)

      evaluated_still : (v : ℕ) → v < count_of chip → place_of v ≤ place → (v ≡ w → ⊥) → IsEvaluated chip v (value_at old.values) → IsEvaluated chip v (value_at new.values)
      evaluated_still v v_known least apart was output within =
          subst (λ vector. EndsByLast (cell_at chip v) vector output (value_at new.values (output_net chip v output)))
          (vector_same chip v (value_at old.values) (value_at new.values) (λ pin k. sym (pins_still v v_known least pin k)))
          (subst (EndsByLast (cell_at chip v) (vector_at chip v (value_at old.values)) output) (sym (outputs_still v v_known apart output within)) (was output within))

      own_evaluated : IsEvaluated chip w (value_at new.values)
      own_evaluated output within =
          subst (λ vector. EndsByLast (cell_at chip w) vector output (value_at new.values (output_net chip w output)))
          (vector_same chip w (value_at old.values) (value_at new.values) (λ pin k. sym (pins_still w placed.known (omega (arith, at)) pin k)))
          (subst (EndsByLast (cell_at chip w) (vector_at chip w (value_at old.values)) output) (sym (evaluated.written.written output within)) (evaluated.ends output within))

      before_this : (v : ℕ) → v < count_of chip → (v ≡ u → ⊥) → (v ≡ w → ⊥) → place_of v < place → KeepsGood chip v goods (value_at new.values) ⊎ IsEvaluated chip v (value_at new.values)
      before_this v v_known apart from_w low = elim (so_far.before v v_known apart low) [
        | inl kept ↦ inl (record {
          pins = λ pin within. pins_still v v_known (omega arith) pin within ∙ kept.pins pin within;
          outputs = λ output within. outputs_still v v_known from_w output within ∙ kept.outputs output within;
        })
        | inr was ↦ inr (evaluated_still v v_known (omega arith) from_w was)
      ]

      pub swept_goes_on : IsSweptTo chip place_of u goods outputs (place + 1) new
      swept_goes_on = record {
        room = record { nets = evaluated.written.changes.nets ∙ so_far.room.nets; places = evaluated.written.changes.places (count_of chip + 1) so_far.room.places };
        inputs = λ net within kind. others net (not_input w net placed.known kind) ∙ so_far.inputs net within kind;
        given = λ output within. outputs_still u known (λ e. other (sym e)) output within ∙ so_far.given output within;
        before = λ v v_known apart less. elim (cases_eq v w) [
          | inl e ↦ subst (λ x. KeepsGood chip x goods (value_at new.values) ⊎ IsEvaluated chip x (value_at new.values)) (sym e) (inr own_evaluated)
          | inr from_w ↦ before_this v v_known apart from_w (elim (cases_lt (place_of v) place) [
            | inl low ↦ low
            | inr high ↦ absurd (from_w (same_as v v_known (let e : place_of v ≡ place = omega arith in e)))
          ])
        ];
        ahead = λ v output v_known apart from within. outputs_still v v_known (λ e. let p = ap place_of e in absurd (omega (arith, at))) output within
            ∙ so_far.ahead v output v_known apart (omega arith) within;
        waiting = λ v pin v_known apart from within. elim (evaluated.written.changes.readers v (net_of chip v pin) (record { known = v_known; pin = pin; within = within; on = refl })) [
          | inl same ↦ elim (so_far.waiting v pin v_known apart (omega arith) within) [
            | inl good ↦ inl (same ∙ good)
            | inr due ↦ inr (evaluated.written.changes.kept (place_of v) due)
          ]
          | inr due ↦ inr due
        ];
        due = λ one due. elim (evaluated.written.changes.added one due) [
          | inl before ↦ so_far.due one before
          | inr more ↦
              let reads = more.3 in
              let out = more.2 in (
                more.0,
                record {
                  known = reads.known;
                  pin = reads.pin;
                  within = reads.within;
                  reached = subst (λ n. IsReachedFrom chip u n) (out.on ∙ sym reads.on) (after_reached chip u w out.output following out.within);
                },
                more.4,
              )
        ];
        changed = λ net. elim (evaluated.written.changes.changed net) [
          | inl same ↦ elim (so_far.changed net) [
            | inl good ↦ inl (same ∙ good)
            | inr (inl out) ↦ inr (inl out)
            | inr (inr was) ↦ inr (inr (record {
              instance = was.instance;
              placed = was.placed;
              is_due = evaluated.written.changes.kept (place_of was.instance) was.is_due;
              out = was.out;
            }))
          ]
          | inr out ↦ inr (inr (record {
            instance = w;
            placed = placed;
            is_due = evaluated.written.changes.kept (place_of w) (subst (IsDue old.due) (sym at) is_due);
            out = out;
          }))
        ];
      }

    -- the first instance that is due from a place on is evaluated
    pub swept_passes : (from place : ℕ) (old new : Values) → IsSweptTo chip place_of u goods outputs from old → IsNext old.due from (Some place)
        → IsEvaluatedAt chip place_of place old new → IsSweptTo chip place_of u goods outputs (place + 1) new
    swept_passes from place old new so_far next done =
        swept_goes_on place done.instance old new (swept_skips from place old so_far next.0 next.2) next.1 done.placed done.at done.evaluated

    -- where nothing is due from a place on, all are found
    pub swept_ends : (from : ℕ) (values : Values) → IsSweptTo chip place_of u goods outputs from values → IsNext values.due from None → AreSwept chip u goods outputs (value_at values.values)
    swept_ends from values so_far none = record {
      inputs = so_far.inputs;
      given = so_far.given;
      others = λ w w_known apart. (swept_skips from (from + place_of w + 1) values so_far (omega arith) (λ at low high. none at low)).before w w_known apart (omega arith);
    }

    -- what is due has a place, and only what is due has changed
    pub swept_held : (from : ℕ) (values : Values) → IsSweptTo chip place_of u goods outputs from values → IsHeld chip place_of u goods values
    swept_held from values so_far = record {
      room = so_far.room;
      each = so_far.changed;
      placed = λ place due. let found = so_far.due place due in record {
        instance = found.0;
        is_placed = record { known = found.1.known; placed = has_place found.0 found.1 };
        at = found.2;
      };
    }
      where
        has_place : (w : ℕ) → IsAfter chip u w → 0 < place_of w
        has_place w following = elim (cases_lt 0 (place_of w)) [
          | inl some ↦ some
          | inr none ↦
              let bare = linked.bare w following.known (let e : place_of w ≡ 0 = omega arith in e) in
              let no_pin = bare.no_pin in
              let within = following.within in
              absurd (omega arith)
        ]
