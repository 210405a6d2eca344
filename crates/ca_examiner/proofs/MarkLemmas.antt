-- Marks.
use Rattle.std.proofs.Common.{◌≡◌, ℕ, zero, suc, ◌+◌, ◌<◌, ◌≤◌, ◌⊎◌, inl, inr, List, [], ◌∷◌, length, Bool, true}
use Rattle.std.proofs.Common.{false, refl, sym, ◌∙◌, ap, subst, arith, get_or}
use native.Mathlib.Decide.{ℕ_discrete}
use Rattle.std.specs.List.{All}
use Rattle.ca_flat.specs.Chip.{Chip, net_of}
use Rattle.std.proofs.lemmas.List.{get_or_default}
use Rattle.ca_examiner.specs.code.Marks.{IsMarked, MarksIf, MarksListed, IsListedBelow, MarksListedTo}
use Rattle.ca_examiner.specs.code.Marks.{IsOnPins, MarksPins}
use Rattle.ca_examiner.specs.code.Marks.{HasMarkedPin, Passes}

-- where no mark is there, no net has one
pub unmarked : (marks : List Bool) → All (λ mark. mark ≡ false) marks → (net : ℕ) → IsMarked marks net → ⊥
unmarked [] none net is = let clash : false ≡ true = is in cc
unmarked (mark ∷ marks) none zero is =
    let first : mark ≡ false = none 0 false (omega arith) in let there : mark ≡ true = is in cc
unmarked (mark ∷ marks) none (suc net) is = unmarked marks (λ k d lt. none (suc k) d (omega arith)) net is

-- where all are there, each net has one
pub all_marked : (marks : List Bool) → All (λ mark. mark ≡ true) marks → (net : ℕ) → net < length marks → IsMarked marks net
all_marked marks all net within = all net false within

pub marked_within : (marks : List Bool) (net : ℕ) → IsMarked marks net → net < length marks
marked_within [] net is = absurd (let clash : false ≡ true = is in cc)
marked_within (mark ∷ marks) zero is = omega arith
marked_within (mark ∷ marks) (suc net) is = let w = marked_within marks net is in omega arith

-- no list was gone through
pub listed_begin : (others : List Bool) (nets : List ℕ) (marks : List Bool) → MarksListedTo others nets 0 marks marks
listed_begin others nets marks = record {
  size = refl;
  each = λ net. (
    λ was. inl was,
    λ either. elim either [
      | inl was ↦ was
      | inr here ↦ let lt = here.0.below in absurd (omega arith)
    ],
  );
}

-- one more net of the list
pub listed_more : (others : List Bool) (nets : List ℕ) (count d : ℕ) (old mid new : List Bool) → count < length nets
    → MarksListedTo others nets count old mid → MarksIf others (get_or nets count d) mid new
    → MarksListedTo others nets (count + 1) old new
listed_more others nets count d old mid new within before more = record {
  size = more.count ∙ before.size;
  each = λ net. (there net, back net);
}
  where
    there : (net : ℕ) → IsMarked new net → IsMarked old net ⊎ (IsListedBelow nets (count + 1) net × IsMarked others net)
    there net marked = elim ((more.each net).0 marked) [
      | inl was ↦ elim ((before.each net).0 was) [
        | inl first ↦ inl first
        | inr here ↦ inr (
          record {
            place = here.0.place;
            below = (let lt = here.0.below in omega arith);
            within = here.0.within;
            is = here.0.is;
          },
          here.1,
        )
      ]
      | inr here ↦ inr (
        record {
          place = count;
          below = omega arith;
          within = within;
          is = get_or_default nets count net d within ∙ here.0;
        },
        subst (IsMarked others) here.0 here.1,
      )
    ]

    back : (net : ℕ) → IsMarked old net ⊎ (IsListedBelow nets (count + 1) net × IsMarked others net) → IsMarked new net
    back net either = elim either [
      | inl first ↦ (more.each net).1 (inl ((before.each net).1 (inl first)))
      | inr here ↦ elim (ℕ_discrete here.0.place count) [
        | yes at ↦ (more.each net).1 (inr (
          sym (get_or_default nets count net d within) ∙ subst (λ k. get_or nets k net ≡ net) at here.0.is,
          subst (IsMarked others) (sym (sym (get_or_default nets count net d within) ∙ subst (λ k. get_or nets k net ≡ net) at here.0.is)) here.1,
        ))
        | no apart ↦ (more.each net).1 (inl ((before.each net).1 (inr (
          record {
            place = here.0.place;
            below = (let lt = here.0.below in let far : here.0.place ≡ count → ⊥ = apart in omega arith);
            within = here.0.within;
            is = here.0.is;
          },
          here.1,
        ))))
      ]
    ]

-- the whole list
pub listed_all : (others : List Bool) (nets : List ℕ) (count : ℕ) (old new : List Bool) → length nets ≤ count
    → MarksListedTo others nets count old new → MarksListed others nets old new
listed_all others nets count old new past are = record {
  count = are.size;
  each = λ net. (
    λ marked. elim ((are.each net).0 marked) [
      | inl was ↦ inl was
      | inr here ↦ inr ((here.0.place, here.0.within, here.0.is), here.1)
    ],
    λ either. (are.each net).1 (elim either [
      | inl was ↦ inl was
      | inr here ↦ inr (
        record {
          place = here.0.0;
          below = (let lt = here.0.1 in omega arith);
          within = here.0.1;
          is = here.0.2;
        },
        here.1,
      )
    ]),
  );
}

-- no pin was gone through
pub pins_begin : (chip : Chip) (others : List Bool) (u from : ℕ) (marks : List Bool) → MarksPins chip others u from 0 marks marks
pins_begin chip others u from marks = record {
  size = refl;
  each = λ net. (
    λ was. inl was,
    λ either. elim either [
      | inl was ↦ was
      | inr here ↦ let lt = here.0.within in absurd (omega arith)
    ],
  );
}

-- one more pin
pub pins_more : (chip : Chip) (others : List Bool) (u from count net : ℕ) (old mid new : List Bool)
    → MarksPins chip others u from count old mid → net ≡ net_of chip u (from + count) → MarksIf others net mid new
    → MarksPins chip others u from (count + 1) old new
pins_more chip others u from count net old mid new before is more = record {
  size = more.count ∙ before.size;
  each = λ n. (there n, back n);
}
  where
    there : (n : ℕ) → IsMarked new n → IsMarked old n ⊎ (IsOnPins chip u from (count + 1) n × IsMarked others n)
    there n marked = elim ((more.each n).0 marked) [
      | inl was ↦ elim ((before.each n).0 was) [
        | inl first ↦ inl first
        | inr here ↦ inr (record { pin = here.0.pin; within = (let lt = here.0.within in omega arith); on = here.0.on }, here.1)
      ]
      | inr here ↦ inr (record { pin = count; within = omega arith; on = sym is ∙ here.0 }, subst (IsMarked others) here.0 here.1)
    ]

    back : (n : ℕ) → IsMarked old n ⊎ (IsOnPins chip u from (count + 1) n × IsMarked others n) → IsMarked new n
    back n either = elim either [
      | inl first ↦ (more.each n).1 (inl ((before.each n).1 (inl first)))
      | inr here ↦ elim (ℕ_discrete here.0.pin count) [
        | yes at ↦
            let same : net ≡ n = is ∙ ap (λ k. net_of chip u (from + k)) (sym at) ∙ here.0.on in
            (more.each n).1 (inr (same, subst (IsMarked others) (sym same) here.1))
        | no apart ↦ (more.each n).1 (inl ((before.each n).1 (inr (
          record {
            pin = here.0.pin;
            within = (let lt = here.0.within in let far : here.0.pin ≡ count → ⊥ = apart in omega arith);
            on = here.0.on;
          },
          here.1,
        ))))
      ]
    ]

-- where none of the first `count` has a property, and the next one doesn't either, none of one more has it
pub none_more : (P : ℕ → Type 0) (count : ℕ) → ((k : ℕ) → k < count → P k → ⊥) → (P count → ⊥)
    → (k : ℕ) → k < count + 1 → P k → ⊥
none_more P count before last k below has = elim (ℕ_discrete k count) [
  | yes e ↦ last (subst P e has)
  | no differ ↦ before k (let far : k ≡ count → ⊥ = differ in omega arith) has
]

-- marks that are passed on
pub pass_some : (chip : Chip) (others : List Bool) (u from count onto onto_count : ℕ) (old new : List Bool)
    → HasMarkedPin chip old u from count → MarksPins chip others u onto onto_count old new
    → Passes chip others u from count onto onto_count old new
pass_some chip others u from count onto onto_count old new has marks = record {
  size = marks.size;
  kept = λ net was. (marks.each net).1 (inl was);
  passed = λ again net on opened. (marks.each net).1 (inr (on, opened));
  only = λ net marked. elim ((marks.each net).0 marked) [
    | inl was ↦ inl was
    | inr here ↦ inr (has, here.0, here.1)
  ];
}

pub pass_none : (chip : Chip) (others : List Bool) (u from count onto onto_count : ℕ) (old : List Bool)
    → (HasMarkedPin chip old u from count → ⊥) → Passes chip others u from count onto onto_count old old
pass_none chip others u from count onto onto_count old none = record {
  size = refl;
  kept = λ net was. was;
  passed = λ has net on opened. absurd (none has);
  only = λ net marked. inl marked;
}

-- the pins are these
pub passes_at : (chip : Chip) (others : List Bool) (u from count onto onto_count a b c d : ℕ) (old new : List Bool)
    → from ≡ a → count ≡ b → onto ≡ c → onto_count ≡ d → Passes chip others u from count onto onto_count old new
    → Passes chip others u a b c d old new
passes_at chip others u from count onto onto_count a b c d old new e f g h passes =
    subst (λ n. Passes chip others u a b c n old new) h (subst (λ n. Passes chip others u a b n onto_count old new) g
    (subst (λ n. Passes chip others u a n onto onto_count old new) f
    (subst (λ n. Passes chip others u n count onto onto_count old new) e passes)))
