-- The first two of those that drive a net, as more are noted.
use Rattle.std.proofs.Common.{◌≡◌, ℕ, ◌+◌, ◌<◌, ◌⊎◌, Bool, true, false, List, length, inl, inr, refl, sym}
use Rattle.std.proofs.Common.{◌∙◌, ap, subst, arith}
use Rattle.std.specs.Prelude.{Option, Some, None, IsSomeAnd, IsTrue, slice_get, slice_set, replicate}
use Rattle.std.specs.List.{All}
use Rattle.std.proofs.lemmas.List.{get_or-set_same, get_or-set_other, length-set, get_or-replicate}
use Rattle.std.proofs.lemmas.List.{length-replicate}
use Rattle.std.proofs.lemmas.Option.{slice_get_within, get_or_from_slice_get}
use native.Mathlib.Decide.{ℕ_discrete}
use Rattle.ca_linked.specs.declared.drivers.Sources.{Sources}
use Rattle.ca_linked.specs.Linked.{Source, FromPort, FromConstant, FromPin, Part, PortBit, LinkedChip, net_count}
use Rattle.ca_linked.specs.Linked.{constant_net, output_nets, Drives}
use Rattle.ca_linked.specs.Drivers.{ComesBefore, AreFirst, no_sources, sources_at}
use Rattle.ca_linked.specs.code.Drivers.{AreDrivers, noted, AreNoted}
use Rattle.ca_linked.specs.Drivers.{IsDrafted}
use Rattle.ca_linked.specs.code.Drivers.{IsSeen, after_constant}

-- equal entries
pub some_inj : {X : Type 0} (x y : X) → Some x ≡ Some y → x ≡ y
some_inj x y e = cc

-- one comes not before and after another
pub not_both : (a b : Source) → ComesBefore a b → ComesBefore b a → ⊥
not_both (FromPort a) (FromPort b) ab ba = omega (arith, ab, ba)
not_both (FromPort a) (FromConstant b) ab ba = ba
not_both (FromPort a) (FromPin u pin) ab ba = ba
not_both (FromConstant a) (FromPort b) ab ba = ab
not_both (FromConstant a) (FromConstant b) ab ba = omega (arith, ab, ba)
not_both (FromConstant a) (FromPin u pin) ab ba = ba
not_both (FromPin u pin) (FromPort b) ab ba = ab
not_both (FromPin u pin) (FromConstant b) ab ba = ab
not_both (FromPin u pin) (FromPin w other) ab ba = elim ab [
  | inl less ↦ elim ba [ inl more ↦ omega (arith, less, more) | inr same ↦ (let e = same.0 in omega (arith, less, e)) ]
  | inr same ↦ elim ba [
    | inl more ↦ (let e = same.0 in omega (arith, more, e))
    | inr back ↦ (let lt = same.1 in let gt = back.1 in omega (arith, lt, gt))
  ]
]

module _ (Has Now : Source → Type 0) where
  -- the same have the property now
  pub same_first : (one two : Option Source) → AreFirst Has one two → ((s : Source) → Has s → Now s) → ((s : Source) → Now s → Has s) → AreFirst Now one two
  same_first None None first up down = λ s now. first s (down s now)
  same_first None (Some two) first up down = first
  same_first (Some one) None first up down = record { has = up one first.has; none_other = λ s now. first.none_other s (down s now) }
  same_first (Some one) (Some two) first up down = record {
    one_has = up one first.one_has;
    two_has = up two first.two_has;
    in_order = first.in_order;
    none_before = λ s now before. first.none_before s (down s now) before;
  }

  -- one more has it, which comes after all others
  pub more_first : (source : Source) (one two : Option Source) → AreFirst Has one two → Now source → ((s : Source) → Has s → Now s)
      → ((s : Source) → Now s → Has s ⊎ (s ≡ source)) → ((s : Source) → Has s → ComesBefore s source)
      → AreFirst Now (noted source one two).first (noted source one two).second
  more_first source None None first here up down after = record {
    has = here;
    none_other = λ s now. elim (down s now) [ inl was ↦ absurd (first s was) | inr same ↦ same ];
  }
  more_first source None (Some two) first here up down after = absurd first
  more_first source (Some one) None first here up down after = record {
    one_has = up one first.has;
    two_has = here;
    in_order = after one first.has;
    none_before = λ s now before. elim (down s now) [
      | inl was ↦ first.none_other s was
      | inr same ↦ absurd (let twice = subst (λ x. ComesBefore x source) same before in not_both source source twice twice)
    ];
  }
  more_first source (Some one) (Some two) first here up down after = record {
    one_has = up one first.one_has;
    two_has = up two first.two_has;
    in_order = first.in_order;
    none_before = λ s now before. elim (down s now) [
      | inl was ↦ first.none_before s was before
      | inr same ↦ absurd (not_both source two (subst (λ x. ComesBefore x two) same before) (after two first.two_has))
    ];
  }

module _ (chip : LinkedChip) (Seen Now : ℕ → Source → Type 0) (table : List Sources) (before : AreNoted chip Seen table) where
  -- nothing more was seen that drives a net
  pub noted_same : ((net : ℕ) (s : Source) → Drives chip net s → Seen net s → Now net s) → ((net : ℕ) (s : Source) → net < net_count chip → Drives chip net s → Now net s → Seen net s)
      → AreNoted chip Now table
  noted_same up down = record {
    count = before.count;
    first = λ net lt. same_first (λ s. Drives chip net s × Seen net s) (λ s. Drives chip net s × Now net s)
        (sources_at table net).first (sources_at table net).second (before.first net lt)
        (λ s has. (has.0, up net s has.0 has.1)) (λ s now. (now.0, down net s lt now.0 now.1));
  }

  -- one more was seen, which drives a net
  pub noted_more : (at : ℕ) (source : Source) → at < net_count chip → Drives chip at source → Now at source
      → ((net : ℕ) (s : Source) → Drives chip net s → Seen net s → Now net s)
      → ((net : ℕ) (s : Source) → Drives chip net s → Now net s → Seen net s ⊎ ((s ≡ source) × (net ≡ at)))
      → ((s : Source) → Drives chip at s → Seen at s → ComesBefore s source)
      → AreNoted chip Now (slice_set table at (noted source (sources_at table at).first (sources_at table at).second))
  noted_more at source within drives now up down after = record {
    count = length-set table at _ ∙ before.count;
    first = λ net lt. elim (ℕ_discrete net at) [
      | yes same ↦
          let new = noted source (sources_at table at).first (sources_at table at).second in
          let there : sources_at (slice_set table at new) net ≡ new =
          ap (sources_at (slice_set table at new)) same ∙ get_or-set_same table at new no_sources (let e = before.count in omega arith) in
          subst (λ (x : Sources). AreFirst (λ s. Drives chip net s × Now net s) x.first x.second) (sym there)
          (subst (λ n. AreFirst (λ s. Drives chip n s × Now n s) new.first new.second) (sym same)
          (more_first (λ s. Drives chip at s × Seen at s) (λ s. Drives chip at s × Now at s) source (sources_at table at).first (sources_at table at).second
          (before.first at within) (drives, now) (λ s has. (has.0, up at s has.0 has.1))
          (λ s has. elim (down at s has.0 has.1) [ inl was ↦ inl (has.0, was) | inr is ↦ inr is.0 ])
          (λ s has. after s has.0 has.1)))
      | no other ↦
          let new = noted source (sources_at table at).first (sources_at table at).second in
          let there : sources_at (slice_set table at new) net ≡ sources_at table net = get_or-set_other table at net new no_sources other in
          subst (λ (x : Sources). AreFirst (λ s. Drives chip net s × Now net s) x.first x.second) (sym there)
          (same_first (λ s. Drives chip net s × Seen net s) (λ s. Drives chip net s × Now net s) (sources_at table net).first (sources_at table net).second
          (before.first net lt) (λ s has. (has.0, up net s has.0 has.1))
          (λ s has. (has.0, elim (down net s has.0 has.1) [ inl was ↦ was | inr is ↦ absurd (other is.1) ])))
    ];
  }

-- nothing was seen
pub noted_none : (chip : LinkedChip) → AreNoted chip (IsSeen (FromPort 0)) (replicate (net_count chip) no_sources)
noted_none chip = record {
  count = length-replicate (net_count chip) no_sources;
  first = λ net lt. subst (λ (x : Sources). AreFirst (λ s. Drives chip net s × IsSeen (FromPort 0) net s) x.first x.second)
      (sym (get_or-replicate (net_count chip) net no_sources no_sources lt)) (λ s has. none s has.1);
}
  where
    none : (s : Source) → ComesBefore s (FromPort 0) → ⊥
    none (FromPort p) lt = omega (arith, lt)
    none (FromConstant value) lt = lt
    none (FromPin u pin) lt = lt

-- the part of a pin that drives a net, and the port bit that does
pub of_some : {X : Type 0} (P : X → Type 0) (o : Option X) (x : X) → o ≡ Some x → IsSomeAnd o P → P x
of_some P o x is has = subst (λ q. IsSomeAnd q P) is has

pub to_some : {X : Type 0} (P : X → Type 0) (o : Option X) (x : X) → o ≡ Some x → P x → IsSomeAnd o P
to_some P o x is has = subst (λ q. IsSomeAnd q P) (sym is) has

-- where a place has something, it is within the list
pub some_within : {X : Type 0} (P : X → Type 0) (xs : List X) (k : ℕ) → IsSomeAnd (slice_get xs k) P → k < length xs
some_within P xs k has = by (slice_get xs k) refl has
  where
    by : (o : Option _) → slice_get xs k ≡ o → IsSomeAnd o P → k < length xs
    by None e there = absurd there
    by (Some x) e there = slice_get_within xs k x e

-- what holds of all of a list holds of the one at a place
pub of_get : (P : ℕ → Type 0) (xs : List ℕ) (k x : ℕ) → All P xs → slice_get xs k ≡ Some x → P x
of_get P xs k x all at = subst P (get_or_from_slice_get xs k x x at) (all k x (slice_get_within xs k x at))

module _ (chip : LinkedChip) (table : List Sources) where
  -- the port bit p is of an input
  pub port_seen : (p : ℕ) (port : PortBit) → slice_get chip.ports p ≡ Some port → IsTrue port.is_input → port.net < net_count chip
      → AreNoted chip (IsSeen (FromPort p)) table
      → AreNoted chip (IsSeen (FromPort (p + 1))) (slice_set table port.net (noted (FromPort p) (sources_at table port.net).first (sources_at table port.net).second))
  port_seen p port at is_input within before =
      noted_more chip (IsSeen (FromPort p)) (IsSeen (FromPort (p + 1))) table before port.net (FromPort p) within
      (to_some (λ (q : PortBit). IsTrue q.is_input × (q.net ≡ port.net)) (slice_get chip.ports p) port at (is_input, refl)) (omega arith)
      (λ net s drives seen. later s seen) (λ net s drives now. split net s drives now) (λ s drives seen. seen)
    where
      later : (s : Source) → ComesBefore s (FromPort p) → ComesBefore s (FromPort (p + 1))
      later (FromPort q) lt = omega (arith, lt)
      later (FromConstant value) lt = lt
      later (FromPin u pin) lt = lt

      split : (net : ℕ) (s : Source) → Drives chip net s → ComesBefore s (FromPort (p + 1)) → ComesBefore s (FromPort p) ⊎ ((s ≡ FromPort p) × (net ≡ port.net))
      split net (FromPort q) drives lt = elim (ℕ_discrete q p) [
        | yes same ↦ inr (
          ap FromPort same,
          sym (of_some (λ (x : PortBit). IsTrue x.is_input × (x.net ≡ net)) (slice_get chip.ports q) port (ap (slice_get chip.ports) same ∙ at) drives).1,
        )
        | no other ↦ inl (omega (arith, lt, other))
      ]
      split net (FromConstant value) drives lt = inl lt
      split net (FromPin u pin) drives lt = inl lt

  -- it is of an output
  pub port_passed : (p : ℕ) (port : PortBit) → slice_get chip.ports p ≡ Some port → (IsTrue port.is_input → ⊥)
      → AreNoted chip (IsSeen (FromPort p)) table → AreNoted chip (IsSeen (FromPort (p + 1))) table
  port_passed p port at is_output before =
      noted_same chip (IsSeen (FromPort p)) (IsSeen (FromPort (p + 1))) table before (λ net s drives seen. later s seen) (λ net s lt drives now. split net s drives now)
    where
      later : (s : Source) → ComesBefore s (FromPort p) → ComesBefore s (FromPort (p + 1))
      later (FromPort q) lt = omega (arith, lt)
      later (FromConstant value) lt = lt
      later (FromPin u pin) lt = lt

      split : (net : ℕ) (s : Source) → Drives chip net s → ComesBefore s (FromPort (p + 1)) → ComesBefore s (FromPort p)
      split net (FromPort q) drives lt = elim (ℕ_discrete q p) [
        | yes same ↦ absurd (is_output
            (of_some (λ (x : PortBit). IsTrue x.is_input × (x.net ≡ net)) (slice_get chip.ports q) port (ap (slice_get chip.ports) same ∙ at) drives).0)
        | no other ↦ omega (arith, lt, other)
      ]
      split net (FromConstant value) drives lt = lt
      split net (FromPin u pin) drives lt = lt

  -- all port bits are
  pub ports_seen : AreNoted chip (IsSeen (FromPort (length chip.ports))) table → AreNoted chip (IsSeen (FromConstant false)) table
  ports_seen before =
      noted_same chip (IsSeen (FromPort (length chip.ports))) (IsSeen (FromConstant false)) table before (λ net s drives seen. later s seen) (λ net s lt drives now. back net s drives now)
    where
      later : (s : Source) → ComesBefore s (FromPort (length chip.ports)) → ComesBefore s (FromConstant false)
      later (FromPort q) lt = tt
      later (FromConstant value) lt = absurd lt
      later (FromPin u pin) lt = lt

      back : (net : ℕ) (s : Source) → Drives chip net s → ComesBefore s (FromConstant false) → ComesBefore s (FromPort (length chip.ports))
      back net (FromPort q) drives lt = some_within (λ (x : PortBit). IsTrue x.is_input × (x.net ≡ net)) chip.ports q drives
      back net (FromConstant value) drives lt = absurd (omega (arith, lt))
      back net (FromPin u pin) drives lt = lt

  -- what was seen before a constant was seen before what comes next
  past_constant : (value : Bool) (s : Source) → ComesBefore s (FromConstant value) → ComesBefore s (after_constant value)
  past_constant false (FromPort q) lt = tt
  past_constant false (FromConstant b) lt = omega (arith, lt)
  past_constant false (FromPin w other) lt = lt
  past_constant true (FromPort q) lt = tt
  past_constant true (FromConstant b) lt = tt
  past_constant true (FromPin w other) lt = absurd lt

  -- and but for that constant nothing more was
  to_constant : (value : Bool) (s : Source) → ComesBefore s (after_constant value) → ComesBefore s (FromConstant value) ⊎ (s ≡ FromConstant value)
  to_constant false (FromPort q) lt = inl tt
  to_constant false (FromConstant false) lt = inr refl
  to_constant false (FromConstant true) lt = absurd (omega (arith, lt))
  to_constant false (FromPin w other) lt = absurd lt
  to_constant true (FromPort q) lt = inl tt
  to_constant true (FromConstant false) lt = inl (omega arith)
  to_constant true (FromConstant true) lt = inr refl
  to_constant true (FromPin w other) lt = absurd (elim lt [ inl less ↦ omega (arith, less) | inr same ↦ (let less = same.1 in omega (arith, less)) ])

  -- a constant drives a net, or none
  pub constant_seen : (value : Bool) (at : ℕ) → constant_net chip value ≡ Some at → at < net_count chip → AreNoted chip (IsSeen (FromConstant value)) table
      → AreNoted chip (IsSeen (after_constant value)) (slice_set table at (noted (FromConstant value) (sources_at table at).first (sources_at table at).second))
  constant_seen value at is within before =
      noted_more chip (IsSeen (FromConstant value)) (IsSeen (after_constant value)) table before at (FromConstant value) within is (here value)
      (λ net s drives seen. past_constant value s seen)
      (λ net s drives now. elim (to_constant value s now) [
        | inl was ↦ inl was
        | inr same ↦ inr (same, some_inj net at (sym (subst (Drives chip net) same drives) ∙ is))
      ])
      (λ s drives seen. seen)
    where
      here : (b : Bool) → ComesBefore (FromConstant b) (after_constant b)
      here false = omega arith
      here true = tt

  pub constant_passed : (value : Bool) → constant_net chip value ≡ None → AreNoted chip (IsSeen (FromConstant value)) table
      → AreNoted chip (IsSeen (after_constant value)) table
  constant_passed value none before = noted_same chip (IsSeen (FromConstant value)) (IsSeen (after_constant value)) table before
      (λ net s drives seen. past_constant value s seen)
      (λ net s lt drives now. elim (to_constant value s now) [
        | inl was ↦ was
        | inr same ↦ absurd (let there = subst (Drives chip net) same drives in let clash : Some net ≡ None = sym there ∙ none in cc)
      ])

  -- the next pin of an instance is seen
  pub pin_seen : (u pin net : ℕ) (part : Part) → slice_get chip.parts u ≡ Some part → slice_get (output_nets part.body) pin ≡ Some net → net < net_count chip
      → AreNoted chip (IsSeen (FromPin u pin)) table
      → AreNoted chip (IsSeen (FromPin u (pin + 1))) (slice_set table net (noted (FromPin u pin) (sources_at table net).first (sources_at table net).second))
  pin_seen u pin at part is_part is_pin within before =
      noted_more chip (IsSeen (FromPin u pin)) (IsSeen (FromPin u (pin + 1))) table before at (FromPin u pin) within
      (to_some (λ (p : Part). slice_get (output_nets p.body) pin ≡ Some at) (slice_get chip.parts u) part is_part is_pin) (inr (refl, omega arith))
      (λ net s drives seen. later s seen) (λ net s drives now. split net s drives now) (λ s drives seen. seen)
    where
      later : (s : Source) → ComesBefore s (FromPin u pin) → ComesBefore s (FromPin u (pin + 1))
      later (FromPort q) lt = tt
      later (FromConstant value) lt = tt
      later (FromPin w other) lt = elim lt [ inl less ↦ inl less | inr same ↦ inr (same.0, (let less = same.1 in omega (arith, less))) ]

      split : (net : ℕ) (s : Source) → Drives chip net s → ComesBefore s (FromPin u (pin + 1)) → ComesBefore s (FromPin u pin) ⊎ ((s ≡ FromPin u pin) × (net ≡ at))
      split net (FromPort q) drives lt = inl tt
      split net (FromConstant value) drives lt = inl tt
      split net (FromPin w other) drives lt = elim lt [
        | inl less ↦ inl (inl less)
        | inr same ↦ elim (ℕ_discrete other pin) [
          | yes e ↦
              let there = of_some (λ (p : Part). slice_get (output_nets p.body) other ≡ Some net) (slice_get chip.parts w) part (ap (slice_get chip.parts) same.0 ∙ is_part) drives in
              inr (ap (λ x. FromPin x other) same.0 ∙ ap (FromPin u) e, some_inj net at (sym there ∙ ap (slice_get (output_nets part.body)) e ∙ is_pin))
          | no ne ↦ inl (inr (same.0, (let less = same.1 in omega (arith, less, ne))))
        ]
      ]

  -- all pins of an instance are
  pub part_seen : (u : ℕ) (part : Part) → slice_get chip.parts u ≡ Some part
      → AreNoted chip (IsSeen (FromPin u (length (output_nets part.body)))) table → AreNoted chip (IsSeen (FromPin (u + 1) 0)) table
  part_seen u part is_part before = noted_same chip (IsSeen (FromPin u (length (output_nets part.body)))) (IsSeen (FromPin (u + 1) 0)) table before
      (λ net s drives seen. later s seen) (λ net s lt drives now. back net s drives now)
    where
      later : (s : Source) → ComesBefore s (FromPin u (length (output_nets part.body))) → ComesBefore s (FromPin (u + 1) 0)
      later (FromPort q) lt = tt
      later (FromConstant value) lt = tt
      later (FromPin w other) lt = inl (elim lt [ inl less ↦ omega (arith, less) | inr same ↦ (let e = same.0 in omega (arith, e)) ])

      back : (net : ℕ) (s : Source) → Drives chip net s → ComesBefore s (FromPin (u + 1) 0) → ComesBefore s (FromPin u (length (output_nets part.body)))
      back net (FromPort q) drives lt = tt
      back net (FromConstant value) drives lt = tt
      back net (FromPin w other) drives lt = elim lt [
        | inl less ↦ elim (ℕ_discrete w u) [
          | yes same ↦
              let there = of_some (λ (p : Part). slice_get (output_nets p.body) other ≡ Some net) (slice_get chip.parts w) part (ap (slice_get chip.parts) same ∙ is_part) drives in
              inr (same, slice_get_within (output_nets part.body) other net there)
          | no ne ↦ inl (omega (arith, less, ne))
        ]
        | inr same ↦ absurd (let less = same.1 in omega (arith, less))
      ]

  -- all instances are
  pub parts_seen : AreNoted chip (IsSeen (FromPin (length chip.parts) 0)) table → AreDrivers chip table
  parts_seen before = record {
    count = before.count;
    first = λ net lt. same_first (λ s. Drives chip net s × IsSeen (FromPin (length chip.parts) 0) net s) (Drives chip net)
        (sources_at table net).first (sources_at table net).second (before.first net lt) (λ s has. has.0) (λ s drives. (drives, all net s drives));
  }
    where
      all : (net : ℕ) (s : Source) → Drives chip net s → ComesBefore s (FromPin (length chip.parts) 0)
      all net (FromPort q) drives = tt
      all net (FromConstant value) drives = tt
      all net (FromPin w other) drives = inl (some_within (λ (p : Part). slice_get (output_nets p.body) other ≡ Some net) chip.parts w drives)

-- the net of a constant is one of the nets
pub constant_within : (chip : LinkedChip) (value : Bool) (net : ℕ) → IsDrafted chip → constant_net chip value ≡ Some net → net < net_count chip
constant_within chip false net drafted is = drafted.zero_on_net net is
constant_within chip true net drafted is = drafted.one_on_net net is
