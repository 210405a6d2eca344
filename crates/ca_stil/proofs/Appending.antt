-- Several texts appended, one after another, where they are too long to be looked through.
use Rattle.std.proofs.Common.{◌≡◌, ℕ, List, ◌++◌, ◌∙◌, ap, append_assoc}

pub after_three : (old a b c : List ℕ) {one two three : List ℕ}
    → one ≡ old ++ a → two ≡ one ++ b → three ≡ two ++ c → three ≡ old ++ (a ++ (b ++ c))
after_three old a b c first second third =
    third ∙ ap (λ (text : List ℕ). text ++ c) (second ∙ ap (λ (text : List ℕ). text ++ b) first)
    ∙ (append_assoc (old ++ a) b c ∙ append_assoc old a (b ++ c))

pub after_four : (old a b c d : List ℕ) {one two three four : List ℕ}
    → one ≡ old ++ a → two ≡ one ++ b → three ≡ two ++ c → four ≡ three ++ d
    → four ≡ old ++ (a ++ (b ++ (c ++ d)))
after_four old a b c d {one} first second third fourth =
    after_three one b c d second third fourth
    ∙ ap (λ (text : List ℕ). text ++ (b ++ (c ++ d))) first
    ∙ append_assoc old a (b ++ (c ++ d))

pub after_five : (old a b c d e : List ℕ) {one two three four five : List ℕ}
    → one ≡ old ++ a → two ≡ one ++ b → three ≡ two ++ c → four ≡ three ++ d → five ≡ four ++ e
    → five ≡ old ++ (a ++ (b ++ (c ++ (d ++ e))))
after_five old a b c d e {one} first second third fourth fifth =
    after_four one b c d e second third fourth fifth
    ∙ ap (λ (text : List ℕ). text ++ (b ++ (c ++ (d ++ e)))) first
    ∙ append_assoc old a (b ++ (c ++ (d ++ e)))

pub after_six : (old a b c d e f : List ℕ) {one two three four five six : List ℕ}
    → one ≡ old ++ a → two ≡ one ++ b → three ≡ two ++ c → four ≡ three ++ d → five ≡ four ++ e → six ≡ five ++ f
    → six ≡ old ++ (a ++ (b ++ (c ++ (d ++ (e ++ f)))))
after_six old a b c d e f {one} first second third fourth fifth sixth =
    after_five one b c d e f second third fourth fifth sixth
    ∙ ap (λ (text : List ℕ). text ++ (b ++ (c ++ (d ++ (e ++ f))))) first
    ∙ append_assoc old a (b ++ (c ++ (d ++ (e ++ f))))
