-- The blocks of the chains, one after another.
use Rattle.std.proofs.Common.{◌≡◌, ℕ, suc, ◌+◌, ◌<◌, ◌≤◌, List, [], ◌∷◌, ◌++◌, length, get_or}
use Rattle.std.proofs.Common.{drop}
use Rattle.std.proofs.Common.{refl, sym, ap, ◌∙◌, arith, append_assoc, length-drop}
use Rattle.std.proofs.lemmas.List.{append-nil}
use Rattle.std.proofs.lemmas.Bool.Decides.{nat_tests}
use Rattle.std.specs.Prelude.{min, nat_le, Bool, true, false}
use Rattle.std.proofs.Math.Seq.{drop-cons}
use Rattle.ca_stil_form.specs.Form.{Token, Outcome, Got, Stuck, mapped, with_first, read_after, read_each}
use Rattle.ca_stil_form.specs.Frame.{Names}
use Rattle.ca_stil_form.specs.Whole.{Ports, numbered}
use Rattle.ca_stil_read.specs.declared.stop.Stop.{Stop}
use Rattle.ca_stil_read.specs.declared.stop.Stop.TheVariants as stop
use Rattle.ca_stil_read.specs.code.Kept.{ports_at}
use Rattle.ca_stil_read.specs.code.Views.{IsStopped}

pub drop_at : {Value : Type 0} (list : List Value) (k : ℕ) (one : Value) → k < length list → one ≡ get_or list k one
    → drop k list ≡ one ∷ drop (k + 1) list
drop_at list k one below is =
    drop-cons list k one below ∙ (λ j. sym is j ∷ drop (next k j) list)
  where
    next : (n : ℕ) → suc n ≡ n + 1
    next n = omega arith

-- the ports of a chain, and those after it
pub numbered_at : (k : ℕ) (ins outs : Names) (scan_in scan_out : List ℕ) → k < length ins → k < length outs
    → scan_in ≡ get_or ins k scan_in → scan_out ≡ get_or outs k scan_out
    → numbered k (drop k ins) (drop k outs) ≡ ports_at k scan_in scan_out ∷ numbered (k + 1) (drop (k + 1) ins) (drop (k + 1) outs)
unfolding numbered
numbered_at k ins outs scan_in scan_out in_below out_below in_is out_is =
    (λ j. numbered k (drop_at ins k scan_in in_below in_is j) (drop_at outs k scan_out out_below out_is j))

-- no ports are left
pub numbered_none : (k : ℕ) (ins outs : Names) → length ins ≤ k → numbered k (drop k ins) (drop k outs) ≡ []
unfolding numbered
numbered_none k ins outs past = by (drop k ins) (omega (arith, length-drop k ins))
  where
    by : (left : Names) → length left ≤ 0 → numbered k left (drop k outs) ≡ []
    by [] none = refl
    by (one ∷ left) none = absurd (omega (arith, none))

pub numbered_none_out : (k : ℕ) (ins outs : Names) → length outs ≤ k → numbered k (drop k ins) (drop k outs) ≡ []
unfolding numbered
numbered_none_out k ins outs past = by (drop k ins) (drop k outs) (omega (arith, length-drop k outs))
  where
    by : (left right : Names) → length right ≤ 0 → numbered k left right ≡ []
    by [] right none = refl
    by (one ∷ left) [] none = refl
    by (one ∷ left) (other ∷ right) none = absurd (omega (arith, none))

pub cells_step : (read : Ports → List Token → Outcome (List ℕ)) (start : Outcome Names) (cells : Names) (k : ℕ) (ins outs : Names)
    (scan_in scan_out digits : List ℕ) (tokens rest : List Token)
    → start ≡ mapped (λ more. cells ++ more) (read_each read (numbered k (drop k ins) (drop k outs)) tokens)
    → k < length ins → k < length outs → scan_in ≡ get_or ins k scan_in → scan_out ≡ get_or outs k scan_out
    → read (ports_at k scan_in scan_out) tokens ≡ Got digits rest
    → start ≡ mapped (λ more. (cells ++ digits ∷ []) ++ more) (read_each read (numbered (k + 1) (drop (k + 1) ins) (drop (k + 1) outs)) rest)
unfolding read_each
cells_step read start cells k ins outs scan_in scan_out digits tokens rest so_far in_below out_below in_is out_is reads =
    so_far
    ∙ (λ j. mapped (λ more. cells ++ more) (read_each read (numbered_at k ins outs scan_in scan_out in_below out_below in_is out_is j) tokens))
    ∙ ap (λ (given : Outcome (List ℕ)). mapped (λ more. cells ++ more) (mapped (λ both. both.0 ∷ both.1) (read_after given (λ item. read_each read others)))) reads
    ∙ by (read_each read others rest)
  where
    others : List Ports
    others = numbered (k + 1) (drop (k + 1) ins) (drop (k + 1) outs)

    by : (given : Outcome Names) → mapped (λ more. cells ++ more) (mapped (λ (both : List ℕ × Names). both.0 ∷ both.1) (with_first digits given))
        ≡ mapped (λ more. (cells ++ digits ∷ []) ++ more) given
    by (Got more after) = ap (λ (list : Names). Got list after) (sym (append_assoc cells (digits ∷ []) more))
    by (Stuck after) = refl

pub cells_stop : (read : Ports → List Token → Outcome (List ℕ)) (why : Stop) (start : Outcome Names) (cells : Names) (k : ℕ) (ins outs : Names)
    (scan_in scan_out : List ℕ) (tokens : List Token)
    → start ≡ mapped (λ more. cells ++ more) (read_each read (numbered k (drop k ins) (drop k outs)) tokens)
    → k < length ins → k < length outs → scan_in ≡ get_or ins k scan_in → scan_out ≡ get_or outs k scan_out
    → IsStopped why (read (ports_at k scan_in scan_out) tokens) → IsStopped why start
unfolding read_each
cells_stop read (stop.Stuck rest) start cells k ins outs scan_in scan_out tokens so_far in_below out_below in_is out_is stopped =
    so_far
    ∙ (λ j. mapped (λ more. cells ++ more) (read_each read (numbered_at k ins outs scan_in scan_out in_below out_below in_is out_is j) tokens))
    ∙ ap (λ (given : Outcome (List ℕ)). mapped (λ more. cells ++ more) (mapped (λ both. both.0 ∷ both.1) (read_after given
    (λ item. read_each read (numbered (k + 1) (drop (k + 1) ins) (drop (k + 1) outs)))))) stopped
cells_stop read stop.NoMemory start cells k ins outs scan_in scan_out tokens so_far in_below out_below in_is out_is stopped = tt

pub cells_end : (read : Ports → List Token → Outcome (List ℕ)) (start : Outcome Names) (cells : Names) (k : ℕ) (ins outs : Names) (tokens : List Token)
    → start ≡ mapped (λ more. cells ++ more) (read_each read (numbered k (drop k ins) (drop k outs)) tokens)
    → numbered k (drop k ins) (drop k outs) ≡ [] → start ≡ Got cells tokens
unfolding read_each
cells_end read start cells k ins outs tokens so_far none =
    so_far ∙ (λ j. mapped (λ more. cells ++ more) (read_each read (none j) tokens))
    ∙ ap (λ (list : Names). Got list tokens) (append-nil cells)

-- no chain is left after the shorter of both lists
pub numbered_end : (k count : ℕ) (ins outs : Names) → count ≡ min (length ins) (length outs) → count ≤ k
    → numbered k (drop k ins) (drop k outs) ≡ []
numbered_end k count ins outs counted past = by (nat_le (length ins) k) refl
  where
    by : (test : Bool) → nat_le (length ins) k ≡ test → numbered k (drop k ins) (drop k outs) ≡ []
    by true is = numbered_none k ins outs (grind (arith, nat_tests))
    by false is = numbered_none_out k ins outs (grind (arith, nat_tests))

pub below_both : (k count ins outs : ℕ) → count ≡ min ins outs → k < count → (k < ins) × (k < outs)
below_both k count ins outs counted below = (omega arith, omega arith)
