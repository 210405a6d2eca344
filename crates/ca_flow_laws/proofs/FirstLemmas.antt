-- A netlist that breaks a rule of linking has, up to a double negation, a first rule that it breaks; of loops
-- one that has each of its instances once.
use Rattle.std.proofs.Common.{ℕ, zero, suc, ◌+◌, ◌≡◌, ◌≤◌, ◌<◌, ◌⊎◌, ◌∙◌, inl, inr, refl, sym, ap, subst, arith, List, [], ◌∷◌, ◌++◌, length}
use Rattle.std.proofs.Common.{Some, length-append}
use Rattle.std.specs.Prelude.{slice_get, take, drop}
use Rattle.std.specs.List.{AllByRecursion}
use Rattle.std.proofs.Math.Decide.{dec_lt}
use Rattle.std.proofs.lemmas.List.Elements.{recursion_from_All, All-from_recursion}
use Rattle.ca_cell.specs.Library.{Named}
use Rattle.ca_verilog.specs.declared.raw.RawNetlist.{RawNetlist}
use Rattle.ca_linked.specs.Order.{IsChain, IsLoop, IsOnce}
use Rattle.ca_wiring.specs.declared.scan_row.ScanRow.{ScanRow}
use Rattle.ca_wiring.specs.declared.fault.ChipFault.{ChipFault}
use Rattle.ca_wiring.specs.declared.fault.ChipFault.TheVariants as rule
use Rattle.ca_wiring.specs.Rules.{IsEarlier, BreaksAt, IsFirstBroken, KeepsRules}

-- what is refuted where it holds and where it doesn't
pub either : (A : Type 0) → ((A ⊎ ¬ A) → ⊥) → ⊥
either A refutes = refutes (inr (λ a. refutes (inl a)))

-- of short places of which this holds, one is the first
least : (most : ℕ) (P : List ℕ → Type 0) → ((at : List ℕ) → P at → length at ≤ most)
    → ((at : List ℕ) → P at → ((before : List ℕ) → IsEarlier before at → P before → ⊥) → ⊥) → (at : List ℕ) → P at → ⊥
least most P short first [] here = first [] here (λ before earlier. nothing before earlier)
  where
    nothing : (before : List ℕ) → IsEarlier before [] → P before → ⊥
    nothing [] earlier held = earlier
    nothing (b ∷ later) earlier held = earlier
least zero P short first (a ∷ rest) here = let is = short (a ∷ rest) here in omega (arith, is)
least (suc most) P short first (a ∷ rest) here = from (least most) (suc a) a (omega arith) rest here
  where
    none : P [] → ⊥
    none held = first [] held (λ before earlier. nothing before earlier)
      where
        nothing : (before : List ℕ) → IsEarlier before [] → P before → ⊥
        nothing [] earlier held = earlier
        nothing (b ∷ later) earlier held = earlier

    from : ((Q : List ℕ → Type 0) → ((at : List ℕ) → Q at → length at ≤ most)
        → ((at : List ℕ) → Q at → ((before : List ℕ) → IsEarlier before at → Q before → ⊥) → ⊥) → (at : List ℕ) → Q at → ⊥)
        → (below a : ℕ) → a < below → (rest : List ℕ) → P (a ∷ rest) → ⊥
    from following zero a less rest here = omega (arith, less)
    from following (suc below) a less rest here = following (λ rest. P (a ∷ rest))
        (λ rest held. let is = short (a ∷ rest) held in omega (arith, is))
        (λ rest held none_before. first (a ∷ rest) held (before rest none_before (from following below)))
        rest here
      where
        before : (rest : List ℕ) → ((before : List ℕ) → IsEarlier before rest → P (a ∷ before) → ⊥)
            → ((a : ℕ) → a < below → (rest : List ℕ) → P (a ∷ rest) → ⊥)
            → (before : List ℕ) → IsEarlier before (a ∷ rest) → P before → ⊥
        before rest none_before lower [] earlier held = none held
        before rest none_before lower (b ∷ later) (inl less_too) held = lower b (omega (arith, less, less_too)) later held
        before rest none_before lower (b ∷ later) (inr (same, earlier)) held =
            none_before later earlier (subst (λ n. P (n ∷ later)) same held)

module _ (raw : RawNetlist) (library : List Named) (scan : List ScanRow) where
  short_place : (at : List ℕ) (broken : ChipFault) → BreaksAt raw library scan at broken → length at ≤ 4
  short_place at (rule.UnknownCell u) breaks = let is = ap length breaks.0 in omega (arith, is)
  short_place at (rule.Cell u broken) breaks = let is = ap length breaks.0 in omega (arith, is)
  short_place at (rule.UnknownPin u pin) breaks = let is = ap length breaks.1 in omega (arith, is)
  short_place at (rule.MissingPin u pin) breaks = let is = ap length breaks.1 in omega (arith, is)
  short_place at (rule.DoubleDriven net first second) breaks = let is = ap length breaks.0 in omega (arith, is)
  short_place at (rule.Undriven net) breaks = let is = ap length breaks.0 in omega (arith, is)
  short_place at (rule.ControlPin u pin) breaks = let is = ap length breaks.1 in omega (arith, is)
  short_place at (rule.QnUsed u) breaks = let is = ap length breaks.0 in omega (arith, is)
  short_place at (rule.ControlObserved net) breaks = let is = ap length breaks.0 in omega (arith, is)
  short_place at (rule.Loop instances) breaks = let is = ap length breaks.0 in omega (arith, is)
  short_place at (rule.TooManyInstances count) breaks = let is = ap length breaks.0 in omega (arith, is)
  short_place at (rule.TooManyInputs count) breaks = let is = ap length breaks.0 in omega (arith, is)
  short_place at (rule.TooManyOutputs count) breaks = let is = ap length breaks.0 in omega (arith, is)
  short_place at (rule.TooManyDefects count) breaks = let is = ap length breaks.0 in omega (arith, is)
  short_place at rule.NoMemory breaks = absurd breaks

  -- where no rule is the first that is broken, none is broken
  pub none_broken : ((broken : ChipFault) → IsFirstBroken raw library scan broken → ⊥) → KeepsRules raw library scan
  none_broken none at other breaks =
      least 4 (λ at. (broken : ChipFault) × BreaksAt raw library scan at broken) (λ at held. short_place at held.0 held.1)
      (λ at held none_before. none held.0 (record {
        at = at;
        breaks = held.1;
        none_before = λ before broken earlier breaks. none_before before earlier (broken, breaks);
      }))
      at (other, breaks)

-- chains
module _ (Feeds : ℕ → ℕ → Type 0) where
  chain_to : (u to : ℕ) (more : List ℕ) (k v : ℕ) → IsChain Feeds u more to → slice_get more k ≡ Some v → IsChain Feeds u (take k more) v
  chain_to u to [] k v chain at = absurd cc
  chain_to u to (w ∷ more) zero v chain at = let same : w ≡ v = cc in subst (Feeds u) same chain.0
  chain_to u to (w ∷ more) (suc k) v chain at = (chain.0, chain_to w to more k v chain.1 at)

  chain_from : (u to : ℕ) (more : List ℕ) (k v : ℕ) → IsChain Feeds u more to → slice_get more k ≡ Some v → IsChain Feeds v (drop (suc k) more) to
  chain_from u to [] k v chain at = absurd cc
  chain_from u to (w ∷ more) zero v chain at = let same : w ≡ v = cc in subst (λ n. IsChain Feeds n more to) same chain.1
  chain_from u to (w ∷ more) (suc k) v chain at = chain_from w to more k v chain.1 at

  chain_joined : (u v to : ℕ) (xs ys : List ℕ) → IsChain Feeds u xs v → IsChain Feeds v ys to → IsChain Feeds u (xs ++ v ∷ ys) to
  chain_joined u v to [] ys one other = (one, other)
  chain_joined u v to (x ∷ xs) ys one other = (one.0, chain_joined x v to xs ys one.1 other)

all_take : {A : Type 0} (P : A → Type 0) (n : ℕ) (xs : List A) → AllByRecursion P xs → AllByRecursion P (take n xs)
all_take P zero xs all = tt
all_take P (suc n) [] all = tt
all_take P (suc n) (x ∷ xs) all = (all.0, all_take P n xs all.1)

all_drop : {A : Type 0} (P : A → Type 0) (n : ℕ) (xs : List A) → AllByRecursion P xs → AllByRecursion P (drop n xs)
all_drop P zero xs all = all
all_drop P (suc n) [] all = tt
all_drop P (suc n) (x ∷ xs) all = all_drop P n xs all.1

all_joined : {A : Type 0} (P : A → Type 0) (xs ys : List A) → AllByRecursion P xs → AllByRecursion P ys → AllByRecursion P (xs ++ ys)
all_joined P [] ys one other = other
all_joined P (x ∷ xs) ys one other = (one.0, all_joined P xs ys one.1 other)

all_here : {A : Type 0} (P : A → Type 0) (xs : List A) (k : ℕ) (x : A) → AllByRecursion P xs → slice_get xs k ≡ Some x → P x
all_here P [] k x all at = absurd cc
all_here P (y ∷ xs) zero x all at = let same : y ≡ x = cc in subst P same all.0
all_here P (y ∷ xs) (suc k) x all at = all_here P xs k x all.1 at

take_count : (n : ℕ) (xs : List ℕ) (x : ℕ) → slice_get xs n ≡ Some x → length (take n xs) ≡ n
take_count n [] x at = absurd cc
take_count zero (y ∷ xs) x at = refl
take_count (suc n) (y ∷ xs) x at = ap suc (take_count n xs x at)

drop_count : (n : ℕ) (xs : List ℕ) (x : ℕ) → slice_get xs n ≡ Some x → length (drop (suc n) xs) + suc n ≡ length xs
drop_count n [] x at = absurd cc
drop_count zero (y ∷ xs) x at = omega arith
drop_count (suc n) (y ∷ xs) x at = let rest = drop_count n xs x at in omega (arith, rest)

module _ (Feeds : ℕ → ℕ → Type 0) (none : (loop : List ℕ) → IsLoop Feeds loop → IsOnce loop → ⊥) where
  -- a loop with an instance twice has a shorter one
  shorter : (most : ℕ) → ((loop : List ℕ) → length loop ≤ most → IsLoop Feeds loop → ⊥) → (loop : List ℕ) → length loop ≤ suc most → IsLoop Feeds loop
      → (j k u : ℕ) → slice_get loop j ≡ Some u → slice_get loop k ≡ Some u → j < k → ⊥
  shorter most less [] within loop j k u at at_too before = loop
  shorter most less (w ∷ more) within loop j zero u at at_too before = omega (arith, before)
  shorter most less (w ∷ more) within (chain, low) zero (suc k) u at at_too before =
      let same : w ≡ u = cc in
      let at_w : slice_get more k ≡ Some w = at_too ∙ ap Some (sym same) in
      let count = take_count k more w at_w in
      let left = drop_count k more w at_w in
      less (w ∷ take k more) (omega (arith, count, left, within)) (
        chain_to Feeds w w more k w chain at_w,
        All-from_recursion (λ n. w ≤ n) (take k more) (all_take (λ n. w ≤ n) k more (recursion_from_All (λ n. w ≤ n) more low)),
      )
  shorter most less (w ∷ more) within (chain, low) (suc j) (suc k) u at at_too before =
      let all = recursion_from_All (λ n. w ≤ n) more low in
      let new : List ℕ = take j more ++ u ∷ drop (suc k) more in
      let first = take_count j more u at in
      let last = drop_count k more u at_too in
      let count = length-append (take j more) (u ∷ drop (suc k) more) in
      less (w ∷ new) (omega (arith, first, last, count, before, within)) (
        chain_joined Feeds w u w (take j more) (drop (suc k) more) (chain_to Feeds w w more j u chain at) (chain_from Feeds w w more k u chain at_too),
        All-from_recursion (λ n. w ≤ n) new (all_joined (λ n. w ≤ n) (take j more) (u ∷ drop (suc k) more) (all_take (λ n. w ≤ n) j more all)
            (all_here (λ n. w ≤ n) more j u all at, all_drop (λ n. w ≤ n) (suc k) more all)),
      )

  no_loop_within : (most : ℕ) (loop : List ℕ) → length loop ≤ most → IsLoop Feeds loop → ⊥
  no_loop_within zero [] within is = is
  no_loop_within zero (w ∷ more) within is = omega (arith, within)
  no_loop_within (suc most) loop within is = none loop is (λ j k u at at_too. elim (dec_lt j k) [
    | yes before ↦ absurd (shorter most (no_loop_within most) loop within is j k u at at_too before)
    | no not ↦ elim (dec_lt k j) [
      | yes following ↦ absurd (shorter most (no_loop_within most) loop within is k j u at_too at following)
      | no neither ↦ omega (arith, not, neither)
    ]
  ])

  -- where no loop has each of its members once, there is none
  pub no_loop : (loop : List ℕ) → IsLoop Feeds loop → ⊥
  no_loop loop is = no_loop_within (length loop) loop (omega arith) is
