-- The verdicts on the first bridges, and on one more.
use Rattle.std.proofs.Common.{◌≡◌, ℕ, ◌+◌, ◌∙◌, List, [], ◌∷◌, ◌++◌, length, length-append, refl, sym, ap, subst, arith, Some}
use Rattle.std.specs.Prelude.{slice_get}
use Rattle.std.proofs.Math.Decide.{dec_lt}
use Rattle.std.proofs.lemmas.Option.{slice_get_within}
use Rattle.ca_credit.specs.declared.verdict.Verdict.{Verdict}
use Rattle.ca_generate.proofs.ListLemmas.{entry_stays, entry_new}
use Rattle.ca_targets.specs.declared.target.Target.{Target}
use Rattle.ca_bridge_verdicts.specs.declared.verdict.BridgeVerdict.{BridgeVerdict}
use Rattle.ca_bridges.specs.Numbers.{IsShort, AreNumbers, own_word, word_of, ArePut}
use Rattle.ca_bridges.specs.code.Numbers.{IsPutUpTo}
use Rattle.ca_bridge_verdicts.proofs.BridgeLemmas.{some_at}
use Rattle.ca_bridges.proofs.TargetLemmas.{one_entry}

pub put_none : (targets : List Target) (numbers : List ℕ) (given : List Verdict) → IsPutUpTo targets numbers given [] 0 0
put_none targets numbers given = record {
  counted = refl;
  passed = λ k place at lt. absurd (omega (arith, lt));
  to_come = λ k place at le. omega arith;
  own = λ place target lt at none. absurd (omega (arith, lt));
  given_are = λ k place v lt at is. absurd (omega (arith, lt));
}

module _ (targets : List Target) (numbers : List ℕ) (given : List Verdict) (words : List BridgeVerdict) (before count : ℕ)
    (are : AreNumbers targets (length targets) numbers) (put : IsPutUpTo targets numbers given words before count) where
  -- the next bridge is a short
  pub put_short : (v : Verdict) → slice_get numbers before ≡ Some count → slice_get given before ≡ Some v
      → IsPutUpTo targets numbers given (words ++ word_of v ∷ []) (before + 1) (count + 1)
  put_short v here given_here = record {
    counted = let grown = length-append words (word_of v ∷ []) in let counted = put.counted in omega (arith, grown, counted);
    passed = λ k place at lt. elim (dec_lt k before) [
      | yes less ↦ let below = put.passed k place at less in omega (arith, below)
      | no not ↦
          let same : k ≡ before = omega (arith, lt, not) in
          let e : place ≡ count = one_entry numbers before place count (subst (λ (n : ℕ). slice_get numbers n ≡ Some place) same at) here in
          omega (arith, e)
    ];
    to_come = λ k place at le. let less = are.ascending before k count place (omega (arith, le)) here at in omega (arith, less);
    own = λ place target lt at none. elim (dec_lt place count) [
      | yes less ↦ entry_stays words (word_of v ∷ []) place (own_word target) (put.own place target less at none)
      | no not ↦
          let same : place ≡ count = omega (arith, lt, not) in
          let short = are.shorts before count here in
          let e : short.target ≡ target = one_entry targets count short.target target short.at (subst (λ (n : ℕ). slice_get targets n ≡ Some target) same at) in
          absurd (none (subst IsShort e short.short))
    ];
    given_are = λ k place w lt at is. elim (dec_lt k before) [
      | yes less ↦ entry_stays words (word_of v ∷ []) place (word_of w) (put.given_are k place w less at is)
      | no not ↦
          let same : k ≡ before = omega (arith, lt, not) in
          let e : place ≡ count = one_entry numbers before place count (subst (λ (n : ℕ). slice_get numbers n ≡ Some place) same at) here in
          let w_is : v ≡ w = one_entry given before v w given_here (subst (λ (n : ℕ). slice_get given n ≡ Some w) same is) in
          let long : length words ≡ place = put.counted ∙ sym e in
          subst (λ (n : ℕ). slice_get (words ++ word_of v ∷ []) n ≡ Some (word_of w)) long
          (entry_new words (word_of v) ∙ ap (λ (x : Verdict). Some (word_of x)) w_is)
    ];
  }

  -- where the next number is another one, none is this
  pub none_here : ((m : ℕ) → slice_get numbers before ≡ Some m → m ≡ count → ⊥) → (k : ℕ) → slice_get numbers k ≡ Some count → ⊥
  none_here apart k at = elim (dec_lt k before) [
    | yes less ↦ let below = put.passed k count at less in omega (arith, below)
    | no not ↦ elim (dec_lt before k) [
      | yes less ↦
          let within = slice_get_within numbers k count at in
          let m = some_at numbers before (omega (arith, within, less)) in
          let below = are.ascending before k m.0 count less m.1 at in
          let above = put.to_come before m.0 m.1 (omega arith) in
          omega (arith, below, above)
      | no neither ↦
          let same : k ≡ before = omega (arith, not, neither) in
          apart count (subst (λ (n : ℕ). slice_get numbers n ≡ Some count) same at) refl
    ]
  ]

  -- the next bridge is none
  pub put_own : (target : Target) → slice_get targets count ≡ Some target → ((k : ℕ) → slice_get numbers k ≡ Some count → ⊥)
      → IsPutUpTo targets numbers given (words ++ own_word target ∷ []) before (count + 1)
  put_own target here none = record {
    counted = let grown = length-append words (own_word target ∷ []) in let counted = put.counted in omega (arith, grown, counted);
    passed = λ k place at lt. let below = put.passed k place at lt in omega (arith, below);
    to_come = λ k place at le. elim (dec_lt count place) [
      | yes less ↦ omega (arith, less)
      | no not ↦
          let above = put.to_come k place at le in
          let same : place ≡ count = omega (arith, above, not) in
          absurd (none k (subst (λ (n : ℕ). slice_get numbers k ≡ Some n) same at))
    ];
    own = λ place other lt at is_none. elim (dec_lt place count) [
      | yes less ↦ entry_stays words (own_word target ∷ []) place (own_word other) (put.own place other less at is_none)
      | no not ↦
          let same : place ≡ count = omega (arith, lt, not) in
          let e : target ≡ other = one_entry targets count target other here (subst (λ (n : ℕ). slice_get targets n ≡ Some other) same at) in
          let long : length words ≡ place = put.counted ∙ sym same in
          subst (λ (n : ℕ). slice_get (words ++ own_word target ∷ []) n ≡ Some (own_word other)) long
          (entry_new words (own_word target) ∙ ap (λ (x : Target). Some (own_word x)) e)
    ];
    given_are = λ k place w lt at is. entry_stays words (own_word target ∷ []) place (word_of w) (put.given_are k place w lt at is);
  }

-- all bridges have their verdicts
pub put_done : (targets : List Target) (numbers : List ℕ) (given : List Verdict) (words : List BridgeVerdict) (before : ℕ)
    → AreNumbers targets (length targets) numbers → IsPutUpTo targets numbers given words before (length targets)
    → ArePut targets numbers given words
put_done targets numbers given words before are put = record {
  one_each = put.counted;
  own = λ place target at none. put.own place target (slice_get_within targets place target at) at none;
  given_are = λ k place v at is. elim (dec_lt k before) [
    | yes less ↦ put.given_are k place v less at is
    | no not ↦
        let above = put.to_come k place at (omega (arith, not)) in
        let below = are.below k place at in
        absurd (omega (arith, above, below))
  ];
}
