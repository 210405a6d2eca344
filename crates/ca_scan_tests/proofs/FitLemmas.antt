-- One entry more has a property.
use Rattle.std.proofs.Common.{◌≡◌, ℕ, ◌+◌, ◌<◌, ◌≤◌, Bool, true, false, List, length, get_or, refl, sym, ap}
use Rattle.std.proofs.Common.{◌∙◌, subst, arith}
use Rattle.std.specs.Prelude.{eqb, Some, None, slice_get}
use Rattle.std.specs.List.{All}
use Rattle.std.proofs.lemmas.Bool.{eqb-true, eq-eqb}
use Rattle.std.proofs.lemmas.Option.{get_or_from_slice_get}
use Rattle.ca_cell.specs.declared.raw.RawCell.{RawCell}
use Rattle.ca_linked.specs.declared.parts.Body.{Body}
use Rattle.ca_linked.specs.declared.parts.Body.TheVariants.{Gate, Scan}
use Rattle.ca_linked.specs.declared.parts.Part.{Part}
use Rattle.ca_linked.specs.Linked.{LinkedChip, IsBody}
use Rattle.ca_linked.specs.Drivers.{IsDrafted}
use Rattle.ca_scan_tests.specs.code.Fits.{AllBefore, IsFit, IsScan}

pub one_more : {X : Type 0} (P : X → Type 0) (k : ℕ) (xs : List X) (x : X) → AllBefore P k xs → slice_get xs k ≡ Some x → P x → AllBefore P (k + 1) xs
one_more P k xs x before at here j d below = by (eqb j k) refl
  where
    by : (test : Bool) → eqb j k ≡ test → P (get_or xs j d)
    by true same = subst P (sym (ap (λ i. get_or xs i d) (eqb-true j k same) ∙ get_or_from_slice_get xs k x d at)) here
    by false other = before j d (smaller j k below other)
      where
        smaller : (a b : ℕ) → a < b + 1 → eqb a b ≡ false → a < b
        smaller a b less other = apart (λ same. let clash : true ≡ false = sym (eq-eqb a b same) ∙ other in cc)
          where
            apart : (a ≡ b → ⊥) → a < b
            apart differs = omega (arith, less, differs)

pub before_all : {X : Type 0} (P : X → Type 0) (k : ℕ) (xs : List X) → AllBefore P k xs → length xs ≤ k → All P xs
before_all P k xs before all j d below = before j d (omega (arith, below, all))

-- a scan instance needs no cell
pub scan_body : (cells : List RawCell) (body : Body) → IsScan body → IsBody cells body
scan_body cells (Gate cell inputs outputs) is = absurd is
scan_body cells (Scan nets) is = tt
