-- Numbers of cells, and the chains that have them.
use Rattle.std.proofs.Common.{◌≡◌, ℕ, zero, suc, ◌+◌, ◌*◌, ◌-◌, ◌<◌, ◌≤◌, List, [], ◌∷◌, ◌++◌, length}
use Rattle.std.proofs.Common.{map, get_or, drop}
use Rattle.std.proofs.Common.{refl, sym, ap, ◌∙◌, arith, subst}
use Rattle.std.specs.Prelude.{fold, min, nat_le, Bool, true, false}
use Rattle.std.proofs.Common.{length-drop}
use Rattle.std.proofs.lemmas.Bool.Decides.{nat_tests}
use Rattle.std.proofs.lemmas.List.{append-nil}
use Rattle.ca_stil_read.specs.declared.frame.FrameChain.{FrameChain}
use Rattle.ca_stil_read.specs.code.Frames.{chain_seen}
use Rattle.ca_stil_read.specs.code.Kept.{chain_at}
use Rattle.ca_stil_read.proofs.ChainLemmas.{drop_at, numbered_at, numbered_end}
use Rattle.ca_lex.specs.Length.{with_digit, number_of}
use Rattle.ca_stil_form.specs.Frame.{Chain, Names, longest}
use Rattle.ca_stil_form.specs.Whole.{Ports, numbered, chains_of}

-- a number only grows with more digits
pub fold_grows : (digits : List ℕ) (number : ℕ) → number ≤ fold with_digit number digits
fold_grows [] number = omega arith
fold_grows (byte ∷ digits) number =
    let more = fold_grows digits (number * 10 + (byte - 48)) in
    omega (arith, more)

-- one digit more is too much
pub too_large : (number limit total byte : ℕ) (digits : List ℕ) → fold with_digit number (byte ∷ digits) ≡ total
    → limit ≤ number * 10 + (byte - 48) → limit ≤ total
too_large number limit total byte digits is large =
    let more = fold_grows digits (number * 10 + (byte - 48)) in
    subst (λ (given : ℕ). limit ≤ given) is (omega (arith, more, large))

pub too_large_so : (number limit total : ℕ) (rest : List ℕ) → 1 ≤ length rest → fold with_digit number rest ≡ total
    → limit ≤ number * 10 + (get_or rest 0 0 - 48) → limit ≤ total
too_large_so number limit total [] some is large = absurd (omega (arith, some))
too_large_so number limit total (byte ∷ rest) some is large = too_large number limit total byte rest is large

pub not_below : (number limit : ℕ) → (number < limit → ⊥) → limit ≤ number
not_below number limit not = grind arith

-- the chain at a place, and those after it
chains_at : (k : ℕ) (ins outs cells : Names) (scan_in scan_out digits : List ℕ) → k < length ins → k < length outs → k < length cells
    → scan_in ≡ get_or ins k scan_in → scan_out ≡ get_or outs k scan_out → digits ≡ get_or cells k digits
    → chains_of (numbered k (drop k ins) (drop k outs)) (drop k cells)
    ≡ chain_at scan_in scan_out (number_of digits) ∷ chains_of (numbered (k + 1) (drop (k + 1) ins) (drop (k + 1) outs)) (drop (k + 1) cells)
unfolding chains_of
chains_at k ins outs cells scan_in scan_out digits in_below out_below cell_below in_is out_is cell_is =
    λ j. chains_of (numbered_at k ins outs scan_in scan_out in_below out_below in_is out_is j) (drop_at cells k digits cell_below cell_is j)

-- an item of a list, whatever stands for one that isn't there
get_same : (list : Names) (k : ℕ) (one other : List ℕ) → k < length list → get_or list k one ≡ get_or list k other
get_same [] k one other below = absurd (omega (arith, below))
get_same (first ∷ list) zero one other below = refl
get_same (first ∷ list) (suc k) one other below = get_same list k one other (omega (arith, below))

longest_has : (list : List Chain) (one : Chain) (more : List Chain) → one.cells ≤ longest (list ++ one ∷ more)
unfolding longest
longest_has [] one more = omega arith
longest_has (first ∷ list) one more = let later = longest_has list one more in omega (arith, later)

-- a chain that is too long
pub chains_large : (k limit : ℕ) (ins outs cells : Names) (digits : List ℕ) (list all : List Chain)
    → k < length ins → k < length outs → k < length cells → digits ≡ get_or cells k digits → limit ≤ number_of digits
    → list ++ chains_of (numbered k (drop k ins) (drop k outs)) (drop k cells) ≡ all → limit ≤ longest all
chains_large k limit ins outs cells digits list all in_below out_below cell_below cell_is large so_far =
    let at = chains_at k ins outs cells (get_or ins k []) (get_or outs k []) digits in_below out_below cell_below
    (get_same ins k [] (get_or ins k []) in_below) (get_same outs k [] (get_or outs k []) out_below) cell_is in
    let whole : list ++ chain_at (get_or ins k []) (get_or outs k []) (number_of digits)
    ∷ chains_of (numbered (k + 1) (drop (k + 1) ins) (drop (k + 1) outs)) (drop (k + 1) cells) ≡ all =
    ap (λ (more : List Chain). list ++ more) (sym at) ∙ so_far in
    let has = longest_has list (chain_at (get_or ins k []) (get_or outs k []) (number_of digits))
    (chains_of (numbered (k + 1) (drop (k + 1) ins) (drop (k + 1) outs)) (drop (k + 1) cells)) in
    subst (λ (given : List Chain). limit ≤ longest given) whole (omega (arith, large, has))

-- a chain that is put after the others
pub chains_kept : (k : ℕ) (ins outs cells : Names) (chains new : List FrameChain) (one : FrameChain) (scan_in scan_out digits : List ℕ) (all : List Chain)
    → new ≡ chains ++ one ∷ [] → one.scan_in ≡ scan_in → one.scan_out ≡ scan_out → one.cells ≡ number_of digits
    → k < length ins → k < length outs → k < length cells
    → scan_in ≡ get_or ins k scan_in → scan_out ≡ get_or outs k scan_out → digits ≡ get_or cells k digits
    → map chain_seen chains ++ chains_of (numbered k (drop k ins) (drop k outs)) (drop k cells) ≡ all
    → map chain_seen new ++ chains_of (numbered (k + 1) (drop (k + 1) ins) (drop (k + 1) outs)) (drop (k + 1) cells) ≡ all
chains_kept k ins outs cells chains new one scan_in scan_out digits all new_is in_same out_same counted in_below out_below cell_below in_is out_is cell_is so_far =
    (λ j. map chain_seen (new_is j) ++ more)
    ∙ seen chains
    ∙ (λ j. map chain_seen chains ++ chain_at (in_same j) (out_same j) (counted j) ∷ more)
    ∙ ap (λ (given : List Chain). map chain_seen chains ++ given)
    (sym (chains_at k ins outs cells scan_in scan_out digits in_below out_below cell_below in_is out_is cell_is))
    ∙ so_far
  where
    more : List Chain
    more = chains_of (numbered (k + 1) (drop (k + 1) ins) (drop (k + 1) outs)) (drop (k + 1) cells)

    seen : (list : List FrameChain) → map chain_seen (list ++ one ∷ []) ++ more ≡ map chain_seen list ++ chain_seen one ∷ more
    seen [] = refl
    seen (first ∷ list) = ap (λ (given : List Chain). chain_seen first ∷ given) (seen list)

-- no chain is left
pub chains_none : (k both count : ℕ) (ins outs cells : Names) (list all : List Chain) → both ≡ min (length ins) (length outs) → count ≡ min both (length cells) → count ≤ k
    → list ++ chains_of (numbered k (drop k ins) (drop k outs)) (drop k cells) ≡ all → list ≡ all
unfolding chains_of
chains_none k both count ins outs cells list all both_is count_is past so_far =
    sym (append-nil list) ∙ ap (λ (more : List Chain). list ++ more) (sym (by (nat_le both k) refl)) ∙ so_far
  where
    none_of : (ports : List Ports) (left : Names) → length left ≤ 0 → chains_of ports left ≡ []
    none_of [] left none = refl
    none_of (one ∷ ports) [] none = refl
    none_of (one ∷ ports) (digits ∷ left) none = absurd (omega (arith, none))

    by : (test : Bool) → nat_le both k ≡ test → chains_of (numbered k (drop k ins) (drop k outs)) (drop k cells) ≡ []
    by true is = ap (λ (ports : List Ports). chains_of ports (drop k cells)) (numbered_end k both ins outs both_is (grind (arith, nat_tests)))
    by false is =
        let above : length cells ≤ k = grind (arith, nat_tests) in
        none_of (numbered k (drop k ins) (drop k outs)) (drop k cells) (omega (arith, length-drop k cells, above))

pub below_three : (k both count ins outs cells : ℕ) → both ≡ min ins outs → count ≡ min both cells → k < count → (k < ins) × (k < outs) × (k < cells)
below_three k both count ins outs cells both_is count_is below = (omega arith, omega arith, omega arith)
