-- Devices that are chosen, marks, and values that are kept, one place after another.
use Rattle.std.proofs.Common.{◌≡◌, ℕ, ◌+◌, ◌<◌, ◌≤◌, List, Bool, true, false, length, take, drop, ◌++◌, sym, ◌∙◌, ap, subst, arith}
use Rattle.std.proofs.Common.{get_or, set, length-set, get_or-set_same, get_or-set_other}
use Rattle.std.specs.Prelude.{Option, Some, slice_get}
use Rattle.std.specs.List.{Contains}
use Rattle.std.proofs.lemmas.Grind.{common_steps}
use Rattle.std.proofs.lemmas.List.{get_or-take, length-take-le}
use Rattle.std.proofs.lemmas.Option.{slice_get-get_or, slice_get_within, get_or_from_slice_get}
use native.Mathlib.Decide.{ℕ_discrete}
use Rattle.ca_net.specs.declared.trit.Trit.{Trit}
use Rattle.ca_net.specs.declared.trit.Trit.TheVariants.{X}
use Rattle.ca_net.specs.declared.device.Device.{Device}
use Rattle.ca_net.specs.State.{value_at}
use Rattle.ca_planes.specs.declared.block.Block.{Block}
use Rattle.ca_planes.specs.Trits.{state_in}
use Rattle.ca_block.specs.code.Touched.{IsUnmarked, StayMarked, IsStill, AreDevicesMarked, IsAmong, AreChosenTo, AreChosen, KeepsUnmarked}

-- a marked place isn't unmarked
pub read_marked : (marks : List Bool) (k : ℕ) → get_or marks k false ≡ true → IsUnmarked marks k → ⊥
read_marked marks k read un = let e : true ≡ false = sym read ∙ un in cc

-- what was written is what is there
written : (chosen : List Device) (k : ℕ) (d : Device) → k < length chosen → slice_get (set chosen k d) k ≡ Some d
written chosen k d lt =
    slice_get-get_or (set chosen k d) k d (let room = length-set chosen k d in omega (arith, lt, room)) ∙ ap Some (get_or-set_same chosen k d d lt)

-- and before it all stays
kept : (chosen : List Device) (k j : ℕ) (d : Device) → j < k → k < length chosen → slice_get (set chosen k d) j ≡ slice_get chosen j
kept chosen k j d below lt =
    slice_get-get_or (set chosen k d) j d (let room = length-set chosen k d in omega (arith, lt, below, room))
    ∙ ap Some (get_or-set_other chosen k j d d (λ e. absurd (omega (arith, e, below)))) ∙ sym (slice_get-get_or chosen j d (omega (arith, below, lt)))

module _ (devices : List Device) (homes : List ℕ) (marks : List Bool) where
  among_still : (count more : ℕ) (d other : Device) (chosen : List Device) → count ≤ more → count < length chosen → IsAmong count chosen other
      → IsAmong more (set chosen count d) other
  among_still count more d other chosen le lt among = record {
    k = among.k;
    within = let h = among.within in omega (arith, h, le);
    there = kept chosen count among.k d among.within lt ∙ among.there;
  }

  -- one device more, whose home is marked
  pub chosen_more : (i count : ℕ) (d : Device) (chosen : List Device) → count < length chosen → slice_get devices i ≡ Some d
      → AreChosenTo devices homes marks i count chosen → AreChosenTo devices homes marks (i + 1) (count + 1) (set chosen count d)
  chosen_more i count d chosen lt is before = record {
    few = let few = before.few in omega (arith, few);
    only = λ k other less there. elim (ℕ_discrete k count) [
      | yes e ↦
          let here : slice_get (set chosen count d) count ≡ Some other = subst (λ j. slice_get (set chosen count d) j ≡ Some other) e there in
          let both : ◌≡◌ {A = Option Device} (Some d) (Some other) = sym (written chosen count d lt) ∙ here in
          let same : d ≡ other = let f = both in cc in
          subst (Contains devices) same (i, slice_get_within devices i d is, get_or_from_slice_get devices i d d is)
      | no ne ↦
          let below : k < count = omega (arith, ne, less) in
          before.only k other below (sym (kept chosen count k d below lt) ∙ there)
    ];
    all = λ j other less there marked. elim (ℕ_discrete j i) [
      | yes e ↦
          let both : ◌≡◌ {A = Option Device} (Some d) (Some other) = sym is ∙ subst (λ x. slice_get devices x ≡ Some other) e there in
          let same : d ≡ other = let f = both in cc in
          subst (IsAmong (count + 1) (set chosen count d)) same (record { k = count; within = omega arith; there = written chosen count d lt })
      | no ne ↦ among_still count (count + 1) d other chosen (omega arith) lt (before.all j other (omega (arith, ne, less)) there marked)
    ];
  }

  -- and one whose home isn't
  pub chosen_still : (i count : ℕ) (d : Device) (chosen : List Device) → count < length chosen → IsUnmarked marks (get_or homes i 0)
      → AreChosenTo devices homes marks i count chosen → AreChosenTo devices homes marks (i + 1) count (set chosen count d)
  chosen_still i count d chosen lt un before = record {
    few = let few = before.few in omega (arith, few);
    only = λ k other less there. before.only k other less (sym (kept chosen count k d less lt) ∙ there);
    all = λ j other less there marked. elim (ℕ_discrete j i) [
      | yes e ↦ absurd (marked (subst (λ x. IsUnmarked marks (get_or homes x 0)) (sym e) un))
      | no ne ↦ among_still count count d other chosen (omega arith) lt (before.all j other (omega (arith, ne, less)) there marked)
    ];
  }

  -- all devices
  pub chosen_all : (i count : ℕ) (chosen : List Device) → length devices ≤ i → count ≤ length chosen → count ≤ length devices
      → AreChosenTo devices homes marks i count chosen → AreChosen devices homes marks (take count chosen)
  chosen_all i count chosen le within few h =
      let room : length (take count chosen) ≡ count = length-take-le count chosen within in
      record {
        few = omega (arith, room, few);
        only = λ k d lt.
            let below : k < count = omega (arith, lt, room) in
            subst (Contains devices) (sym (get_or-take count chosen k d below))
            (h.only k (get_or chosen k d) below (slice_get-get_or chosen k d (omega (arith, below, within))));
        all = λ j d is marked.
            let among = h.all j d (let lt = slice_get_within devices j d is in omega (arith, lt, le)) is marked in (
              among.k,
              let lt = among.within in omega (arith, lt, room),
              get_or-take count chosen among.k d among.within ∙ get_or_from_slice_get chosen among.k d d among.there,
            );
      }

-- what was chosen from lists that are read
pub chosen_as : {devices devices_read : List Device} {homes homes_read : List ℕ} {marks marks_read : List Bool} {chosen chosen_read : List Device}
    → devices ≡ devices_read → homes ≡ homes_read → marks ≡ marks_read → chosen ≡ chosen_read
    → AreChosen devices homes marks chosen → AreChosen devices_read homes_read marks_read chosen_read
chosen_as {devices} {devices_read} {homes} {homes_read} {marks} {marks_read} {chosen} {chosen_read} e f g h a =
    subst (λ x. AreChosen x homes_read marks_read chosen_read) e
    (subst (λ x. AreChosen devices x marks_read chosen_read) f
    (subst (λ x. AreChosen devices homes x chosen_read) g (subst (AreChosen devices homes marks) h a)))

-- and kept by them
pub keeps_as : {count count_read : ℕ} {labels labels_read : List ℕ} {marks marks_read : List Bool} (from old new : Block)
    → count ≡ count_read → labels ≡ labels_read → marks ≡ marks_read
    → KeepsUnmarked count labels marks from old new → KeepsUnmarked count_read labels_read marks_read from old new
keeps_as {count} {count_read} {labels} {labels_read} {marks} {marks_read} from old new e f g a =
    subst (λ x. KeepsUnmarked x labels_read marks_read from old new) e
    (subst (λ x. KeepsUnmarked count x marks_read from old new) f (subst (λ x. KeepsUnmarked count labels x from old new) g a))

-- what is written back to a list of the same length
pub put_back : (new old : List Device) (count : ℕ) → count ≡ length new → take count (new ++ drop (length new) old) ≡ new
put_back new old count same = grind (arith, common_steps, same)

pub put_back_marks : (new old : List Bool) (count : ℕ) → count ≡ length new → take count (new ++ drop (length new) old) ≡ new
put_back_marks new old count same = grind (arith, common_steps, same)

-- one device more of which neither the gate nor an end has changed, if its home isn't marked
pub devices_more : (devices : List Device) (homes : List ℕ) (changed old new : List Bool) (i : ℕ) (d : Device) → slice_get devices i ≡ Some d
    → (IsUnmarked new (get_or homes i 0) → IsStill changed d) → StayMarked old new
    → AreDevicesMarked i devices homes changed old → AreDevicesMarked (i + 1) devices homes changed new
devices_more devices homes changed old new i d is here stay before j other less there un = elim (ℕ_discrete j i) [
  | yes e ↦
      let both : ◌≡◌ {A = Option Device} (Some d) (Some other) = sym is ∙ subst (λ x. slice_get devices x ≡ Some other) e there in
      let same : d ≡ other = let f = both in cc in
      subst (IsStill changed) same (here (subst (λ x. IsUnmarked new (get_or homes x 0)) e un))
  | no ne ↦ before j other (omega (arith, ne, less)) there (stay (get_or homes j 0) un)
]

-- what is kept up to a node, and what comes later
pub record KeepsTo (labels : List ℕ) (marks : List Bool) (from old new : Block) (count : ℕ) : Type 0 where
  pub keeps : KeepsUnmarked count labels marks from old new
  pub later : (lane m : ℕ) → count ≤ m → value_at (state_in new lane) m ≡ value_at (state_in old lane) m

module _ (labels : List ℕ) (marks : List Bool) (from old new : Block) (n : ℕ) (before : KeepsTo labels marks from old new n) where
  -- a marked node more
  pub keeps_still : (IsUnmarked marks (get_or labels n 0) → ⊥) → KeepsTo labels marks from old new (n + 1)
  keeps_still marked = record {
    keeps = record {
      unmarked = λ lane m lt un. elim (ℕ_discrete m n) [
        | yes e ↦ absurd (marked (subst (λ x. IsUnmarked marks (get_or labels x 0)) e un))
        | no ne ↦ before.keeps.unmarked lane m (omega (arith, lt, ne)) un
      ];
      marked = λ lane m lt is. elim (ℕ_discrete m n) [
        | yes e ↦ before.later lane m (omega (arith, e))
        | no ne ↦ before.keeps.marked lane m (omega (arith, lt, ne)) is
      ];
    };
    later = λ lane m le. before.later lane m (omega (arith, le));
  }

  -- and one that isn't
  pub keeps_more : (next : Block) (value : ℕ → Trit) → ((lane : ℕ) → n < length (state_in new lane)) → ((lane : ℕ) → state_in next lane ≡ set (state_in new lane) n (value lane))
      → ((lane : ℕ) → value lane ≡ value_at (state_in from lane) n) → IsUnmarked marks (get_or labels n 0) → KeepsTo labels marks from old next (n + 1)
  keeps_more next value room put is un = record {
    keeps = record {
      unmarked = λ lane m lt here. elim (ℕ_discrete m n) [
        | yes e ↦
            ap (value_at (state_in next lane)) e ∙ ap (λ xs. value_at xs n) (put lane) ∙ get_or-set_same (state_in new lane) n (value lane) X (room lane) ∙ is lane
            ∙ ap (value_at (state_in from lane)) (sym e)
        | no ne ↦ other lane m ne ∙ before.keeps.unmarked lane m (omega (arith, lt, ne)) here
      ];
      marked = λ lane m lt marked. elim (ℕ_discrete m n) [
        | yes e ↦ absurd (marked (subst (λ x. IsUnmarked marks (get_or labels x 0)) (sym e) un))
        | no ne ↦ other lane m ne ∙ before.keeps.marked lane m (omega (arith, lt, ne)) marked
      ];
    };
    later = λ lane m le. other lane m (λ e. absurd (omega (arith, e, le))) ∙ before.later lane m (omega (arith, le));
  } where
    other : (lane m : ℕ) → (m ≡ n → ⊥) → value_at (state_in next lane) m ≡ value_at (state_in new lane) m
    other lane m ne = ap (λ xs. value_at xs m) (put lane) ∙ get_or-set_other (state_in new lane) n m (value lane) X ne
