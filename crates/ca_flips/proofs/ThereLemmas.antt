-- Flipped values are one, and there are some.
use Rattle.std.proofs.Common.{◌≡◌, ◌≢◌, ℕ, zero, suc, ◌+◌, ◌<◌, ◌⊎◌, length, inl, inr, refl, sym, ◌∙◌, ap, subst, arith}
use Rattle.ca_net.specs.declared.trit.Trit.{Trit}
use Rattle.ca_net.specs.declared.trit.Trit.TheVariants.{X}
use Rattle.ca_flat.specs.Chip.{Chip, cell_at, inputs_at, outputs_at, net_of, output_net, count_of, Drives, IsChip}
use Rattle.ca_flat.specs.Pair.{values_from}
use Rattle.ca_flat.specs.Chain.{IsReachedFrom}
use Rattle.ca_flat.proofs.NetInduction.{net_induction}
use Rattle.ca_flat.proofs.Detected.{same_instance}
use Rattle.ca_flips.specs.Static.{EndsByLast}
use Rattle.ca_flips.specs.Flips.{IsAfter, AreStaticAfter, AreDefiniteAfter, AreFlipped, vector_at}
use Rattle.ca_flips.specs.Laws.{FlippedAreUnique, FlippedAreThere, FlippedAreDefinite}
use Rattle.ca_flips.proofs.CellLemmas.{last_end_is_one_lem}
use Rattle.ca_flips.proofs.ReachLemmas.{reached_late, reached_no_input, reached_is_after, reached_own, after_other, after_reached}
use Rattle.ca_flips.proofs.FlipLemmas.{same_by_cases}
use Rattle.ca_flips.proofs.VectorLemmas.{vector_same, values_same, values_definite}

module _ (chip : Chip) (rank : ℕ → ℕ) (is : IsChip chip rank) (u : ℕ) (known : u < count_of chip) (goods outputs values others : ℕ → Trit)
    (one : AreFlipped chip u goods outputs values) (two : AreFlipped chip u goods outputs others) where
  abbrev Same : ℕ → Type 0
  Same net = values net ≡ others net

  apart_same : (net : ℕ) → net < length chip.nets → (IsReachedFrom chip u net → ⊥) → Same net
  apart_same net within off = one.apart net within off ∙ sym (two.apart net within off)

  own_same : (w output : ℕ) → w ≡ u → output < outputs_at chip w → Same (output_net chip w output)
  own_same w output e within = subst (λ x. Same (output_net chip x output)) (sym e)
      (let k = subst (λ x. output < outputs_at chip x) e within in one.given output k ∙ sym (two.given output k))

  after_same : (w output : ℕ) → w < count_of chip → output < outputs_at chip w → IsAfter chip u w
      → ((pin : ℕ) → pin < inputs_at chip w → Same (net_of chip w pin)) → Same (output_net chip w output)
  after_same w output lt within following pins =
      last_end_is_one_lem (cell_at chip w) (vector_at chip w others) output _ _ (is.cells w lt) within
      (subst (λ x. EndsByLast (cell_at chip w) x output (values (output_net chip w output))) (vector_same chip w values others pins) (one.following w output following within))
      (two.following w output following within)

  pub all_same : (net : ℕ) → net < length chip.nets → Same net
  all_same = net_induction chip rank is Same
      (λ net within kind. apart_same net within (λ reached. reached_no_input chip rank is u known net reached kind))
      (λ w lt pins output within. elim (same_instance w u) [
        | inl e ↦ own_same w output e within
        | inr other ↦ same_by_cases (IsReachedFrom chip u (output_net chip w output)) _ _
            (λ reached. after_same w output lt within (reached_is_after chip rank is u known w output lt within other reached) pins)
            (λ off. apart_same (output_net chip w output) (is.on_nets w (inputs_at chip w + output) lt (omega arith)) off)
      ])

pub flipped_are_unique_lem : FlippedAreUnique
flipped_are_unique_lem chip rank u goods outputs values others net is known one two within = all_same chip rank is u known goods outputs values others one two net within

-- values each of which can't but be there can't but be there together
abbrev preceded : Trit → (ℕ → Trit) → ℕ → Trit
preceded v more zero = v
preceded v more (suc n) = more n

pub together : (P : ℕ → Trit → Type 0) (count : ℕ) → ((n : ℕ) → n < count → ((v : Trit) → P n v → ⊥) → ⊥)
    → ((values : ℕ → Trit) → ((n : ℕ) → n < count → P n (values n)) → ⊥) → ⊥
together P zero each out = out (λ n. X) (λ n lt. absurd (omega arith))
together P (suc count) each out =
    each 0 (omega arith) (λ v here.
    together (λ n. P (suc n)) count (λ n lt. each (suc n) (omega arith)) (λ more there.
    out (preceded v more) (at v here more there)))
  where
    at : (v : Trit) → P 0 v → (more : ℕ → Trit) → ((n : ℕ) → n < count → P (suc n) (more n)) → (n : ℕ) → n < suc count → P n (preceded v more n)
    at v here more there zero lt = here
    at v here more there (suc n) lt = there n (omega arith)

module _ (chip : Chip) (rank : ℕ → ℕ) (is : IsChip chip rank) (u : ℕ) (known : u < count_of chip) (goods outputs : ℕ → Trit) where
  -- an output net of u, with its value
  pub record IsOwn (net : ℕ) (v : Trit) : Type 0 where
    pub output : ℕ
    pub within : output < outputs_at chip u
    pub on : output_net chip u output ≡ net
    pub gives : v ≡ outputs output

  -- an output net of an instance behind u, with what its cell ends with by values of its input nets
  pub record IsOf (at : ℕ → Trit → Type 0) (net : ℕ) (v : Trit) : Type 0 where
    pub instance : ℕ
    pub output : ℕ
    pub following : IsAfter chip u instance
    pub within : output < outputs_at chip instance
    pub on : output_net chip instance output ≡ net
    pub pins : ℕ → Trit
    pub each : (pin : ℕ) → pin < inputs_at chip instance → at (net_of chip instance pin) (pins pin)
    pub ends : EndsByLast (cell_at chip instance) (values_from pins 0 (inputs_at chip instance)) output v

  -- the value of the net, found in fewer than so many steps
  abbrev pub IsAt : ℕ → ℕ → Trit → Type 0
  IsAt zero net v = ⊥
  IsAt (suc k) net v = ((IsReachedFrom chip u net → ⊥) × (v ≡ goods net)) ⊎ (IsOwn net v ⊎ IsOf (IsAt k) net v)

  own_reached : (net : ℕ) (v : Trit) → IsOwn net v → IsReachedFrom chip u net
  own_reached net v own = subst (IsReachedFrom chip u) own.on (reached_own chip u own.output own.within)

  of_reached : (at : ℕ → Trit → Type 0) (net : ℕ) (v : Trit) → IsOf at net v → IsReachedFrom chip u net
  of_reached at net v of = subst (IsReachedFrom chip u) of.on (after_reached chip u of.instance of.output of.following of.within)

  abbrev own_drives : (net : ℕ) (v : Trit) → IsOwn net v → Drives chip net
  own_drives net v own = record { instance = u; output = own.output; known = known; within = own.within; on = own.on }

  abbrev of_drives : (at : ℕ → Trit → Type 0) (net : ℕ) (v : Trit) → IsOf at net v → Drives chip net
  of_drives at net v of = record { instance = of.instance; output = of.output; known = of.following.known; within = of.within; on = of.on }

  own_apart : (at : ℕ → Trit → Type 0) (net : ℕ) (v w : Trit) → IsOwn net v → IsOf at net w → ⊥
  own_apart at net v w own of = after_other chip rank is u known of.instance of.following (is.one_driver net (of_drives at net w of) (own_drives net v own)).0

  -- two ways by an instance behind u are one
  of_same : (at bt : ℕ → Trit → Type 0) → ((net : ℕ) (v w : Trit) → at net v → bt net w → v ≡ w) → (net : ℕ) (v w : Trit) → IsOf at net v → IsOf bt net w → v ≡ w
  of_same at bt same net v w one two =
      let e = is.one_driver net (of_drives bt net w two) (of_drives at net v one) in
      let ends : EndsByLast (cell_at chip one.instance) (values_from two.pins 0 (inputs_at chip one.instance)) one.output w =
      subst (λ x. EndsByLast (cell_at chip one.instance) (values_from two.pins 0 (inputs_at chip one.instance)) x w) e.1
      (subst (λ x. EndsByLast (cell_at chip x) (values_from two.pins 0 (inputs_at chip x)) two.output w) e.0 two.ends) in
      let each : (pin : ℕ) → pin < inputs_at chip one.instance → bt (net_of chip one.instance pin) (two.pins pin) =
      subst (λ x. (pin : ℕ) → pin < inputs_at chip x → bt (net_of chip x pin) (two.pins pin)) e.0 two.each in
      last_end_is_one_lem (cell_at chip one.instance) (values_from two.pins 0 (inputs_at chip one.instance)) one.output v w
      (is.cells one.instance one.following.known) one.within
      (subst (λ x. EndsByLast (cell_at chip one.instance) x one.output v)
      (values_same one.pins two.pins (inputs_at chip one.instance) (λ n lt. same (net_of chip one.instance n) _ _ (one.each n lt) (each n lt)))
      one.ends) ends

  unique : (k j net : ℕ) (v w : Trit) → IsAt k net v → IsAt j net w → v ≡ w
  unique zero j net v w p q = absurd p
  unique (suc k) zero net v w p q = absurd q
  unique (suc k) (suc j) net v w (inl p) (inl q) = p.1 ∙ sym q.1
  unique (suc k) (suc j) net v w (inl p) (inr (inl q)) = absurd (p.0 (own_reached net w q))
  unique (suc k) (suc j) net v w (inl p) (inr (inr q)) = absurd (p.0 (of_reached (IsAt j) net w q))
  unique (suc k) (suc j) net v w (inr (inl p)) (inl q) = absurd (q.0 (own_reached net v p))
  unique (suc k) (suc j) net v w (inr (inl p)) (inr (inl q)) =
      p.gives ∙ ap outputs (is.one_driver net (own_drives net v p) (own_drives net w q)).1 ∙ sym q.gives
  unique (suc k) (suc j) net v w (inr (inl p)) (inr (inr q)) = absurd (own_apart (IsAt j) net v w p q)
  unique (suc k) (suc j) net v w (inr (inr p)) (inl q) = absurd (q.0 (of_reached (IsAt k) net v p))
  unique (suc k) (suc j) net v w (inr (inr p)) (inr (inl q)) = absurd (own_apart (IsAt k) net w v q p)
  unique (suc k) (suc j) net v w (inr (inr p)) (inr (inr q)) = of_same (IsAt k) (IsAt j) (unique k j) net v w p q

  -- the value of the net, found in some number of steps
  abbrev Found : ℕ → Trit → Type 0
  Found net v = (k : ℕ) × IsAt k net v

  -- found values are flipped ones
  module _ (values : ℕ → Trit) (found : (net : ℕ) → net < length chip.nets → Found net (values net)) where
    of_flipped : (k w output : ℕ) → IsAfter chip u w → output < outputs_at chip w → (v : Trit) → IsAt k (output_net chip w output) v
        → EndsByLast (cell_at chip w) (vector_at chip w values) output v
    of_flipped zero w output following within v p = absurd p
    of_flipped (suc k) w output following within v (inl p) = absurd (p.0 (after_reached chip u w output following within))
    of_flipped (suc k) w output following within v (inr (inl p)) =
        absurd (after_other chip rank is u known w following (is.one_driver (output_net chip w output)
        (record { instance = w; output = output; known = following.known; within = within; on = refl }) (own_drives _ v p)).0)
    of_flipped (suc k) w output following within v (inr (inr p)) =
        let e = is.one_driver (output_net chip w output) (of_drives (IsAt k) _ v p) (record { instance = w; output = output; known = following.known; within = within; on = refl }) in
        let ends : EndsByLast (cell_at chip w) (values_from p.pins 0 (inputs_at chip w)) output v =
        subst (λ x. EndsByLast (cell_at chip w) (values_from p.pins 0 (inputs_at chip w)) x v) e.1
        (subst (λ x. EndsByLast (cell_at chip x) (values_from p.pins 0 (inputs_at chip x)) p.output v) e.0 p.ends) in
        let each : (pin : ℕ) → pin < inputs_at chip w → IsAt k (net_of chip w pin) (p.pins pin) =
        subst (λ x. (pin : ℕ) → pin < inputs_at chip x → IsAt k (net_of chip x pin) (p.pins pin)) e.0 p.each in
        subst (λ x. EndsByLast (cell_at chip w) x output v)
        (values_same p.pins (λ pin. values (net_of chip w pin)) (inputs_at chip w) (λ n lt.
        let f = found (net_of chip w n) (is.on_nets w n following.known (omega arith)) in
        unique k f.0 (net_of chip w n) _ _ (each n lt) f.1)) ends

    found_flipped : AreFlipped chip u goods outputs values
    found_flipped = record {
      apart = λ net within off. let f = found net within in unique f.0 1 net (values net) (goods net) f.1 (inl (off, refl));
      given = λ output within. let f = found (output_net chip u output) (is.on_nets u (inputs_at chip u + output) known (omega arith)) in
          unique f.0 1 (output_net chip u output) _ (outputs output) f.1 (inr (inl (record { output = output; within = within; on = refl; gives = refl })));
      following = λ w output following within. let f = found (output_net chip w output) (is.on_nets w (inputs_at chip w + output) following.known (omega arith)) in
          of_flipped f.0 w output following within (values (output_net chip w output)) f.1;
    }

  module _ (static : AreStaticAfter chip u) (definite : AreDefiniteAfter chip u goods) (chosen : (output : ℕ) → output < outputs_at chip u → outputs output ≢ X) where
    at_definite : (k net : ℕ) (v : Trit) → goods net ≢ X → IsAt k net v → v ≢ X
    at_definite zero net v good p = absurd p
    at_definite (suc k) net v good (inl p) = λ e. good (sym p.1 ∙ e)
    at_definite (suc k) net v good (inr (inl p)) = λ e. chosen p.output p.within (sym p.gives ∙ e)
    at_definite (suc k) net v good (inr (inr p)) = p.ends.definite

    -- by induction on the rank of the net's driver
    abbrev Some : ℕ → Type 0
    Some net = (k : ℕ) → ((p : Drives chip net) → rank p.instance < k) → ((v : Trit) → IsAt (suc k) net v → ⊥) → ⊥

    own_some : (w output : ℕ) → w ≡ u → output < outputs_at chip w → IsOwn (output_net chip w output) (outputs output)
    own_some w output e within = subst (λ x. IsOwn (output_net chip x output) (outputs output)) (sym e)
        (record { output = output; within = subst (λ x. output < outputs_at chip x) e within; on = refl; gives = refl })

    of_some : (w output : ℕ) → IsAfter chip u w → output < outputs_at chip w → ((pin : ℕ) → pin < inputs_at chip w → Some (net_of chip w pin))
        → (k : ℕ) → rank w < k → ((v : Trit) → IsAt (suc k) (output_net chip w output) v → ⊥) → ⊥
    of_some w output following within pins zero bound out = absurd (omega arith)
    of_some w output following within pins (suc k) bound out =
        together (λ pin v. IsAt (suc k) (net_of chip w pin) v) (inputs_at chip w)
        (λ pin lt. pins pin lt k (λ q. let less : rank q.instance < rank w = is.ranked w pin following.known lt q in omega arith))
        (λ values each.
        let end = static w following (values_from values 0 (inputs_at chip w)) (values_definite chip w values
        (λ n lt. at_definite (suc k) (net_of chip w n) (values n) (definite.read w n following lt) (each n lt))) output within in
        out end.value (inr (inr (record { instance = w; output = output; following = following; within = within; on = refl; pins = values; each = each; ends = end.ends }))))

    some : (net : ℕ) → net < length chip.nets → Some net
    some = net_induction chip rank is Some
        (λ net within kind k bound out. out (goods net) (inl ((λ reached. reached_no_input chip rank is u known net reached kind), refl)))
        (λ w lt pins output within k bound out. elim (same_instance w u) [
          | inl e ↦ out (outputs output) (inr (inl (own_some w output e within)))
          | inr other ↦ absurd (at_other w lt pins output within k (bound (record { instance = w; output = output; known = lt; within = within; on = refl })) out other)
        ])
      where
        at_other : (w : ℕ) → w < count_of chip → ((pin : ℕ) → pin < inputs_at chip w → Some (net_of chip w pin)) → (output : ℕ) → output < outputs_at chip w
            → (k : ℕ) → rank w < k → ((v : Trit) → IsAt (suc k) (output_net chip w output) v → ⊥) → (w ≡ u → ⊥) → ⊥
        at_other w lt pins output within k bound out other =
            let not_off : (IsReachedFrom chip u (output_net chip w output) → ⊥) → ⊥ = λ off. out (goods (output_net chip w output)) (inl (off, refl)) in
            not_off (λ reached. of_some w output (reached_is_after chip rank is u known w output lt within other reached) within pins k bound out)

    some_found : (net : ℕ) → net < length chip.nets → ((v : Trit) → Found net v → ⊥) → ⊥
    some_found = net_induction chip rank is (λ net. ((v : Trit) → Found net v → ⊥) → ⊥)
        (λ net within kind out. out (goods net) (1, inl ((λ reached. reached_no_input chip rank is u known net reached kind), refl)))
        (λ w lt pins output within out. some (output_net chip w output) (is.on_nets w (inputs_at chip w + output) lt (omega arith)) (rank w + 1)
        (λ q. let same : rank q.instance ≡ rank w = ap rank (is.one_driver (output_net chip w output) q (record { instance = w; output = output; known = lt; within = within; on = refl })).0 in omega arith)
        (λ v at. out v (suc (rank w + 1), at)))

pub flipped_are_there_lem : FlippedAreThere
flipped_are_there_lem chip rank u goods outputs is known static definite chosen out =
    together (Found chip rank is u known goods outputs) (length chip.nets)
    (some_found chip rank is u known goods outputs static definite chosen)
    (λ values found. out values (found_flipped chip rank is u known goods outputs values found))

pub flipped_are_definite_lem : FlippedAreDefinite
flipped_are_definite_lem chip rank u goods outputs values net is known chosen flipped reached =
    let drives = (reached_late chip rank is u known net reached).drives in
    subst (λ x. values x ≢ X) drives.on (elim (same_instance drives.instance u) [
      | inl e ↦ own drives.instance drives.output e drives.within
      | inr other ↦ (flipped.following drives.instance drives.output
          (reached_is_after chip rank is u known drives.instance drives.output drives.known drives.within other (subst (IsReachedFrom chip u) (sym drives.on) reached)) drives.within).definite
    ])
  where
    own : (w output : ℕ) → w ≡ u → output < outputs_at chip w → values (output_net chip w output) ≢ X
    own w output e within = subst (λ x. values (output_net chip x output) ≢ X) (sym e)
        (let k = subst (λ x. output < outputs_at chip x) e within in subst (λ x. x ≢ X) (sym (flipped.given output k)) (chosen output k))
