-- The scan instances of a linked chip, and which of their pins break a rule first.
use Rattle.std.proofs.Common.{◌≡◌, ℕ, zero, suc, ◌+◌, ◌<◌, List, [], ◌∷◌, Bool, true, false, inl, inr, refl}
use Rattle.std.proofs.Common.{sym, ◌∙◌, ap, subst, arith}
use Rattle.std.specs.Prelude.{Option, Some, None, slice_get, take, eqb, ◌||◌, ◌⊎◌, if◌then◌else◌}
use Rattle.std.specs.List.{All}
use Rattle.std.proofs.lemmas.Bool.{or_cases, or_left, or_right}
use Rattle.std.proofs.lemmas.List.Elements.{All-nil, All-cons, All-head, All-tail}
use Rattle.std.proofs.lemmas.Option.{slice_get_within}
use Rattle.ca_cell.specs.declared.raw.RawCell.{RawCell}
use Rattle.ca_linked.specs.declared.controls.Misused.{Misused}
use Rattle.ca_linked.specs.declared.parts.ScanNets.{ScanNets}
use Rattle.ca_linked.specs.declared.parts.Body.{Body}
use Rattle.ca_linked.specs.declared.parts.Body.TheVariants.{Gate, Scan}
use Rattle.ca_linked.specs.declared.parts.Part.{Part}
use Rattle.ca_linked.specs.Linked.{LinkedChip, input_nets, IsGate}
use Rattle.ca_linked.specs.Controls.{is_misplaced, is_used, pin_fault, scan_or, first_scan, body_fault}
use Rattle.ca_linked.specs.Controls.{misused_or, misused_from}
use Rattle.ca_wiring.specs.declared.scan_row.ScanRow.{ScanRow}
use Rattle.ca_wiring.specs.Wiring.{Meaning, Unknown, Broken, Library, ScanCell}
use Rattle.ca_wiring.specs.Linking.{HasMeaning}
use Rattle.ca_wiring.specs.Rules.{IsScan}
use Rattle.ca_linked.proofs.DriverLemmas.{some_inj}

-- what holds of all before a place, and the list of those
pub all_before : {X : Type 0} (P : X → Type 0) (xs : List X) (place : ℕ)
    → ((k : ℕ) (x : X) → k < place → slice_get xs k ≡ Some x → P x) → All P (take place xs)
all_before P [] zero each = All-nil P
all_before P [] (suc place) each = All-nil P
all_before P (x ∷ xs) zero each = All-nil P
all_before P (x ∷ xs) (suc place) each =
    All-cons P x (take place xs) (each 0 x (omega arith) refl)
    (all_before P xs place (λ k y lt at. each (suc k) y (omega (arith, lt)) at))

-- and the other way round
pub before_all : {X : Type 0} (P : X → Type 0) (xs : List X) (place k : ℕ) (x : X) → All P (take place xs)
    → k < place → slice_get xs k ≡ Some x → P x
before_all P [] place k x all lt at = absurd (let within = slice_get_within [] k x at in omega (arith, within))
before_all P (first ∷ xs) zero k x all lt at = absurd (omega (arith, lt))
before_all P (first ∷ xs) (suc place) zero x all lt at = subst P (some_inj first x at) (All-head P first (take place xs) all)
before_all P (first ∷ xs) (suc place) (suc k) x all lt at =
    before_all P xs place k x (All-tail P first (take place xs) all) (omega (arith, lt)) at

-- an instance of a scan cell has the body of one
pub scan_body : (cells : List RawCell) (meaning : Meaning) (body : Body) → HasMeaning cells meaning body → IsScan meaning
    → (nets : ScanNets) × (body ≡ Scan nets)
scan_body cells Unknown body has is = absurd is
scan_body cells (Broken rule) body has is = absurd is
scan_body cells (Library raw) body has is = absurd is
scan_body cells (ScanCell row) (Gate cell inputs outputs) has is = absurd has
scan_body cells (ScanCell row) (Scan nets) has is = (nets, refl)

-- an instance with the body of a scan cell is of one
pub body_scan : (cells : List RawCell) (meaning : Meaning) (body : Body) (nets : ScanNets) → HasMeaning cells meaning body
    → body ≡ Scan nets → (row : ScanRow) × (meaning ≡ ScanCell row)
body_scan cells Unknown body nets has is = absurd has
body_scan cells (Broken rule) body nets has is = absurd has
body_scan cells (Library raw) (Gate cell inputs outputs) nets has is = absurd (let clash : Gate cell inputs outputs ≡ Scan nets = is in cc)
body_scan cells (Library raw) (Scan other) nets has is = absurd has
body_scan cells (ScanCell row) body nets has is = (row, refl)

pub is_scan : (meaning : Meaning) (row : ScanRow) → meaning ≡ ScanCell row → IsScan meaning
is_scan meaning row is = subst IsScan (sym is) tt

-- where the first scan instance is
pub record IsFirstScan (parts : List Part) (place : ℕ) (nets : ScanNets) : Type 0 where
  pub part : Part
  pub at : slice_get parts place ≡ Some part
  pub body : part.body ≡ Scan nets
  pub none_before : (before : ℕ) (other : Part) → before < place → slice_get parts before ≡ Some other → IsGate other.body

-- the first that is reported is there
pub first_scan_at : (parts : List Part) (nets : ScanNets) → first_scan parts ≡ Some nets → (place : ℕ) × IsFirstScan parts place nets
first_scan_at [] nets e = absurd (let clash : None ≡ Some nets = e in cc)
first_scan_at (part ∷ more) nets e = by (λ reported. first_scan_at more nets reported) part.body refl e
  where
    by : (first_scan more ≡ Some nets → (place : ℕ) × IsFirstScan more place nets) → (body : Body) → part.body ≡ body
        → scan_or body (first_scan more) ≡ Some nets
        → (place : ℕ) × IsFirstScan (part ∷ more) place nets
    by rest (Gate cell inputs outputs) is reported =
        let found = rest reported in
        let later = found.1 in
        (suc found.0, record { part = later.part; at = later.at; body = later.body; none_before = none later.none_before })
      where
        none : {place : ℕ} → ((before : ℕ) (other : Part) → before < place → slice_get more before ≡ Some other → IsGate other.body)
            → (before : ℕ) (other : Part) → before < suc place → slice_get (part ∷ more) before ≡ Some other → IsGate other.body
        none each zero other lt at = subst (λ (p : Part). IsGate p.body) (some_inj part other at) (subst IsGate (sym is) tt)
        none each (suc before) other lt at = each before other (omega (arith, lt)) at
    by rest (Scan first) is reported = (
      0,
      record {
        part = part;
        at = refl;
        body = is ∙ ap Scan (some_inj first nets reported);
        none_before = λ before other lt at. absurd (omega (arith, lt));
      },
    )

-- where there is a scan instance, a first is reported
pub some_first : (parts : List Part) (u : ℕ) (part : Part) (nets : ScanNets) → slice_get parts u ≡ Some part
    → part.body ≡ Scan nets → (first : ScanNets) × (first_scan parts ≡ Some first)
some_first [] u part nets at is = absurd (let lt = slice_get_within [] u part at in omega (arith, lt))
some_first (other ∷ more) zero part nets at is =
    (nets, ap (λ body. scan_or body (first_scan more)) (ap (λ (p : Part). p.body) (some_inj other part at) ∙ is))
some_first (other ∷ more) (suc u) part nets at is = by (some_first more u part nets at is) other.body
  where
    by : ((first : ScanNets) × (first_scan more ≡ Some first)) → (body : Body)
        → (first : ScanNets) × (scan_or body (first_scan more) ≡ Some first)
    by rest (Gate cell inputs outputs) = rest
    by rest (Scan own) = (own, refl)

module _ (chip : LinkedChip) (first : Option ScanNets) where
  -- the instance at a place has this pin as the first that breaks its rule, and none before it has one
  pub record IsMisusedAt (parts : List Part) (place pin : ℕ) : Type 0 where
    pub part : Part
    pub at : slice_get parts place ≡ Some part
    pub broken : body_fault chip first part.body ≡ Some pin
    pub none_before : (before : ℕ) (other : Part) → before < place → slice_get parts before ≡ Some other
        → body_fault chip first other.body ≡ None

  -- the one that is reported is
  pub misused_at : (parts : List Part) (u : ℕ) (misused : Misused) → misused_from chip first u parts ≡ Some misused
      → (place : ℕ) × (misused.instance ≡ u + place) × IsMisusedAt parts place misused.pin
  misused_at [] u misused e = absurd (let clash : None ≡ Some misused = e in cc)
  misused_at (part ∷ more) u misused e = by (λ reported. misused_at more (u + 1) misused reported) (body_fault chip first part.body) refl e
    where
      by : (misused_from chip first (u + 1) more ≡ Some misused
          → (place : ℕ) × (misused.instance ≡ u + 1 + place) × IsMisusedAt more place misused.pin)
          → (reported : Option ℕ) → body_fault chip first part.body ≡ reported → misused_or u reported (misused_from chip first (u + 1) more) ≡ Some misused
          → (place : ℕ) × (misused.instance ≡ u + place) × IsMisusedAt (part ∷ more) place misused.pin
      by rest None is reported =
          let found = rest reported in
          let later = found.2 in
          let same = found.1 in
          (suc found.0, omega (arith, same), record { part = later.part; at = later.at; broken = later.broken; none_before = none later.none_before })
        where
          none : {place : ℕ} → ((before : ℕ) (other : Part) → before < place → slice_get more before ≡ Some other
              → body_fault chip first other.body ≡ None)
              → (before : ℕ) (other : Part) → before < suc place → slice_get (part ∷ more) before ≡ Some other
              → body_fault chip first other.body ≡ None
          none each zero other lt at = ap (λ (p : Part). body_fault chip first p.body) (sym (some_inj part other at)) ∙ is
          none each (suc before) other lt at = each before other (omega (arith, lt)) at
      by rest (Some pin) is reported =
          let same : (record { instance = u; pin = pin }) ≡ misused = some_inj (record { instance = u; pin = pin }) misused reported in
          let there : u ≡ misused.instance = ap (λ (m : Misused). m.instance) same in (
            0,
            omega (arith, there),
            record {
              part = part;
              at = refl;
              broken = is ∙ ap Some (ap (λ (m : Misused). m.pin) same);
              none_before = λ before other lt at. absurd (omega (arith, lt));
            },
          )

  -- where none is reported, no instance has one
  pub none_misused : (parts : List Part) (u place : ℕ) (part : Part) → misused_from chip first u parts ≡ None
      → slice_get parts place ≡ Some part → body_fault chip first part.body ≡ None
  none_misused [] u place part e at = absurd (let lt = slice_get_within [] place part at in omega (arith, lt))
  none_misused (other ∷ more) u place part e at =
      by (λ k none there. none_misused more (u + 1) k part none there) (body_fault chip first other.body) refl e place at
    where
      by : ((k : ℕ) → misused_from chip first (u + 1) more ≡ None → slice_get more k ≡ Some part → body_fault chip first part.body ≡ None)
          → (reported : Option ℕ) → body_fault chip first other.body ≡ reported → misused_or u reported (misused_from chip first (u + 1) more) ≡ None
          → (k : ℕ) → slice_get (other ∷ more) k ≡ Some part → body_fault chip first part.body ≡ None
      by rest None is none zero here = ap (λ (p : Part). body_fault chip first p.body) (sym (some_inj other part here)) ∙ is
      by rest None is none (suc k) there = rest k none there
      by rest (Some pin) is none k there = absurd (let clash : Some (record { instance = u; pin = pin }) ≡ None = none in cc)

-- the net of a control pin
abbrev pub control_net : ScanNets → ℕ → ℕ
control_net nets zero = nets.se
control_net nets (suc zero) = nets.ck
control_net nets (suc (suc k)) = nets.hold

-- it is that of an input pin, after d and si
pub control_input : (nets : ScanNets) (k : ℕ) → k < 3 → slice_get (input_nets (Scan nets)) (2 + k) ≡ Some (control_net nets k)
control_input nets zero lt = refl
control_input nets (suc zero) lt = refl
control_input nets (suc (suc zero)) lt = refl
control_input nets (suc (suc (suc k))) lt = absurd (omega (arith, lt))

module _ (chip : LinkedChip) (first nets : ScanNets) where
  -- whether a pin breaks its rule
  abbrev pub breaks_pin : ℕ → Bool
  breaks_pin zero = is_misplaced chip first.se nets.se
  breaks_pin (suc zero) = is_misplaced chip first.ck nets.ck || eqb nets.ck nets.se
  breaks_pin (suc (suc zero)) = is_misplaced chip first.hold nets.hold || (eqb nets.hold nets.se || eqb nets.hold nets.ck)
  breaks_pin (suc (suc (suc k))) = is_used chip nets.qn

  -- it is the first that does
  pub record IsFirstPin (pin : ℕ) : Type 0 where
    pub few : pin < 4
    pub here : breaks_pin pin ≡ true
    pub none_before : (before : ℕ) → before < pin → breaks_pin before ≡ false

  abbrev reported_by : Bool → Bool → Bool → Bool → Option ℕ
  reported_by a b c d = if a then Some 0 else (if b then Some 1 else (if c then Some 2 else (if d then Some 3 else None)))

  -- the pin that is reported is the first
  pub first_pin : (pin : ℕ) → pin_fault chip first nets ≡ Some pin → IsFirstPin pin
  first_pin pin e = by (breaks_pin 0) (breaks_pin 1) (breaks_pin 2) (breaks_pin 3) refl refl refl refl e
    where
      by : (a b c d : Bool) → breaks_pin 0 ≡ a → breaks_pin 1 ≡ b → breaks_pin 2 ≡ c → breaks_pin 3 ≡ d → reported_by a b c d ≡ Some pin
          → IsFirstPin pin
      by true b c d is_a is_b is_c is_d reported = subst IsFirstPin (some_inj 0 pin reported)
          (record { few = omega arith; here = is_a; none_before = λ before lt. absurd (omega (arith, lt)) })
      by false true c d is_a is_b is_c is_d reported = subst IsFirstPin (some_inj 1 pin reported)
          (record { few = omega arith; here = is_b; none_before = none })
        where
          none : (before : ℕ) → before < 1 → breaks_pin before ≡ false
          none zero lt = is_a
          none (suc before) lt = absurd (omega (arith, lt))
      by false false true d is_a is_b is_c is_d reported = subst IsFirstPin (some_inj 2 pin reported)
          (record { few = omega arith; here = is_c; none_before = none })
        where
          none : (before : ℕ) → before < 2 → breaks_pin before ≡ false
          none zero lt = is_a
          none (suc zero) lt = is_b
          none (suc (suc before)) lt = absurd (omega (arith, lt))
      by false false false true is_a is_b is_c is_d reported = subst IsFirstPin (some_inj 3 pin reported)
          (record { few = omega arith; here = is_d; none_before = none })
        where
          none : (before : ℕ) → before < 3 → breaks_pin before ≡ false
          none zero lt = is_a
          none (suc zero) lt = is_b
          none (suc (suc zero)) lt = is_c
          none (suc (suc (suc before))) lt = absurd (omega (arith, lt))
      by false false false false is_a is_b is_c is_d reported = absurd (let clash : None ≡ Some pin = reported in cc)

  -- where none is reported, none breaks its rule
  pub no_pin : pin_fault chip first nets ≡ None → (pin : ℕ) → breaks_pin pin ≡ false
  no_pin e = by (breaks_pin 0) (breaks_pin 1) (breaks_pin 2) (breaks_pin 3) refl refl refl refl e
    where
      by : (a b c d : Bool) → breaks_pin 0 ≡ a → breaks_pin 1 ≡ b → breaks_pin 2 ≡ c → breaks_pin 3 ≡ d → reported_by a b c d ≡ None
          → (pin : ℕ) → breaks_pin pin ≡ false
      by true b c d is_a is_b is_c is_d reported pin = absurd (let clash : Some 0 ≡ None = reported in cc)
      by false true c d is_a is_b is_c is_d reported pin = absurd (let clash : Some 1 ≡ None = reported in cc)
      by false false true d is_a is_b is_c is_d reported pin = absurd (let clash : Some 2 ≡ None = reported in cc)
      by false false false true is_a is_b is_c is_d reported pin = absurd (let clash : Some 3 ≡ None = reported in cc)
      by false false false false is_a is_b is_c is_d reported zero = is_a
      by false false false false is_a is_b is_c is_d reported (suc zero) = is_b
      by false false false false is_a is_b is_c is_d reported (suc (suc zero)) = is_c
      by false false false false is_a is_b is_c is_d reported (suc (suc (suc pin))) = is_d

  -- a control pin breaks its rule by where it is, or by an earlier one on its net
  pub breaks_cases : (k : ℕ) → k < 3 → breaks_pin k ≡ true
      → (is_misplaced chip (control_net first k) (control_net nets k) ≡ true)
      ⊎ ((j : ℕ) × (j < k) × (eqb (control_net nets k) (control_net nets j) ≡ true))
  breaks_cases zero lt e = inl e
  breaks_cases (suc zero) lt e = elim (or_cases (is_misplaced chip first.ck nets.ck) (eqb nets.ck nets.se) e) [
    | inl misplaced ↦ inl misplaced
    | inr shared ↦ inr (0, omega arith, shared)
  ]
  breaks_cases (suc (suc zero)) lt e =
      elim (or_cases (is_misplaced chip first.hold nets.hold) (eqb nets.hold nets.se || eqb nets.hold nets.ck) e) [
        | inl misplaced ↦ inl misplaced
        | inr shared ↦ elim (or_cases (eqb nets.hold nets.se) (eqb nets.hold nets.ck) shared) [
          | inl one ↦ inr (0, omega arith, one)
          | inr two ↦ inr (1, omega arith, two)
        ]
      ]
  breaks_cases (suc (suc (suc k))) lt e = absurd (omega (arith, lt))

  -- and where it is so, it does
  pub misplaced_breaks : (k : ℕ) → k < 3 → is_misplaced chip (control_net first k) (control_net nets k) ≡ true → breaks_pin k ≡ true
  misplaced_breaks zero lt e = e
  misplaced_breaks (suc zero) lt e = or_left (is_misplaced chip first.ck nets.ck) (eqb nets.ck nets.se) e
  misplaced_breaks (suc (suc zero)) lt e =
      or_left (is_misplaced chip first.hold nets.hold) (eqb nets.hold nets.se || eqb nets.hold nets.ck) e
  misplaced_breaks (suc (suc (suc k))) lt e = absurd (omega (arith, lt))

  pub shared_breaks : (k j : ℕ) → k < 3 → j < k → eqb (control_net nets k) (control_net nets j) ≡ true → breaks_pin k ≡ true
  shared_breaks zero j lt before e = absurd (omega (arith, before))
  shared_breaks (suc zero) zero lt before e = or_right (is_misplaced chip first.ck nets.ck) (eqb nets.ck nets.se) e
  shared_breaks (suc zero) (suc j) lt before e = absurd (omega (arith, before))
  shared_breaks (suc (suc zero)) zero lt before e =
      or_right (is_misplaced chip first.hold nets.hold) (eqb nets.hold nets.se || eqb nets.hold nets.ck)
      (or_left (eqb nets.hold nets.se) (eqb nets.hold nets.ck) e)
  shared_breaks (suc (suc zero)) (suc zero) lt before e =
      or_right (is_misplaced chip first.hold nets.hold) (eqb nets.hold nets.se || eqb nets.hold nets.ck)
      (or_right (eqb nets.hold nets.se) (eqb nets.hold nets.ck) e)
  shared_breaks (suc (suc zero)) (suc (suc j)) lt before e = absurd (omega (arith, before))
  shared_breaks (suc (suc (suc k))) j lt before e = absurd (omega (arith, lt))
