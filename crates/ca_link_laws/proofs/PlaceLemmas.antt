-- Places in the order of the rules: of two places one comes first, or they are the same.
use Rattle.std.proofs.Common.{◌≡◌, ℕ, ◌⊎◌, List, [], ◌∷◌, inl, inr, refl, ap, ◌∙◌, arith}
use Rattle.std.proofs.Math.Decide.{dec_lt}
use Rattle.ca_wiring.specs.Rules.{IsEarlier}

pub in_order : (one other : List ℕ) → IsEarlier one other ⊎ ((one ≡ other) ⊎ IsEarlier other one)
in_order [] [] = inr (inl refl)
in_order [] (b ∷ later) = inl tt
in_order (a ∷ rest) [] = inr (inr tt)
in_order (a ∷ rest) (b ∷ later) = elim (dec_lt a b) [
  | yes less ↦ inl (inl less)
  | no not ↦ elim (dec_lt b a) [
    | yes more ↦ inr (inr (inl more))
    | no neither ↦
        let same : a ≡ b = omega (arith, not, neither) in
        let back : b ≡ a = omega (arith, not, neither) in
        elim (in_order rest later) [
          | inl before ↦ inl (inr (same, before))
          | inr (inl equal) ↦ inr (inl (ap (λ n. n ∷ rest) same ∙ ap (λ list. b ∷ list) equal))
          | inr (inr following) ↦ inr (inr (inr (back, following)))
        ]
  ]
]
