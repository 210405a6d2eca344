-- A text is spelled token by token, and so is one that has a part before it.
use Rattle.std.proofs.Common.{◌≡◌, ℕ, ◌+◌, ◌-◌, ◌==◌, Bool, true, false, ◌||◌, ◌&&◌, List, [], ◌∷◌, ◌++◌}
use Rattle.std.proofs.Common.{if◌then◌else◌, length, take, drop, map, None, refl, sym, ap, ◌∙◌, subst, arith}
use Rattle.std.proofs.Common.{append_assoc}
use Rattle.std.specs.List.{list_all, prefix_len}
use Rattle.std.proofs.lemmas.List.{length-append, append-nil}
use Rattle.std.proofs.Math.Seq.{drop-append_seam, take-append_seam}
use Rattle.ca_lex.specs.declared.token.TokenKind.{TokenKind}
use Rattle.ca_lex.specs.declared.token.TokenKind.TheVariants.{Name, Sign}
use Rattle.ca_token.specs.Bytes.{is_name_byte, name_len}
use Rattle.ca_token.specs.Scan.{Scan, with_token, token_at, scan_from, text_of}
use Rattle.ca_token.proofs.ScanLemmas.{passed_over}
use Rattle.ca_verilog.specs.declared.lexeme.Lexeme.TheVariants as lexeme
use Rattle.ca_verilog.specs.Lexeme.{lexeme_of, word_of, sign_of, name_of}
use Rattle.ca_syntax.specs.Symbols.{Symbol, symbol_of, symbol_at}

-- these tokens of the whole text are the symbols, and no fault follows them
pub record IsSpelled (text : List ℕ) (scan : Scan) (symbols : List Symbol) : Type 0 where
  pub whole : scan.flaw ≡ None
  pub spelled : map (symbol_at text) scan.tokens ≡ symbols

-- the text after these bytes spells the symbols
abbrev pub Spells : List ℕ → List ℕ → List Symbol → Type 0
Spells before text symbols = (begins_line : Bool)
    → IsSpelled (before ++ text) (scan_from begins_line 0 (length before) text) symbols

-- nothing is left
pub end_spelled : (before : List ℕ) → Spells before [] []
unfolding scan_from
end_spelled before begins_line = record { whole = refl; spelled = refl }

carried : (one other : List ℕ) (scan same : Scan) (symbols : List Symbol) → one ≡ other → scan ≡ same
    → IsSpelled one scan symbols → IsSpelled other same symbols
carried one other scan same symbols texts scans is =
    subst (λ (s : Scan). IsSpelled other s symbols) scans (subst (λ (t : List ℕ). IsSpelled t scan symbols) texts is)

-- a byte that is white space
abbrev pub IsBlank : ℕ → Type 0
IsBlank byte = (begins_line : Bool) (place : ℕ) (rest : List ℕ)
    → scan_from begins_line 0 place (byte ∷ rest) ≡ scan_from (begins_line || byte == 10) 0 (place + 1) rest

-- a text that begins with a token of this kind and length
abbrev pub BeginsToken : TokenKind → ℕ → ℕ → List ℕ → Type 0
BeginsToken kind len byte rest = (begins_line : Bool) (place : ℕ) → scan_from begins_line 0 place (byte ∷ rest)
    ≡ with_token (token_at place kind len) (scan_from false (len - 1) (place + 1) rest)

-- white space
blank_spelled : (before : List ℕ) (byte : ℕ) (text : List ℕ) (symbols : List Symbol) → IsBlank byte
    → Spells (before ++ byte ∷ []) text symbols → Spells before (byte ∷ text) symbols
blank_spelled before byte text symbols is rest begins_line =
    carried ((before ++ byte ∷ []) ++ text) (before ++ byte ∷ text)
    (scan_from (begins_line || byte == 10) 0 (length (before ++ byte ∷ [])) text)
    (scan_from begins_line 0 (length before) (byte ∷ text)) symbols
    (append_assoc before (byte ∷ []) text)
    (ap (λ (at : ℕ). scan_from (begins_line || byte == 10) 0 at text) (length-append before (byte ∷ []))
    ∙ sym (is begins_line (length before) text))
    (rest (begins_line || byte == 10))

-- the text of a token that follows these bytes
text_is : (before word text : List ℕ) (kind : TokenKind)
    → text_of (token_at (length before) kind (length word)) (before ++ (word ++ text)) ≡ word
text_is before word text kind =
    ap (λ (count : ℕ). take count (drop (length before) (before ++ (word ++ text))))
    (let e : length before + length word - length before ≡ length word = omega arith in e)
    ∙ ap (take (length word)) (drop-append_seam before (word ++ text))
    ∙ take-append_seam word text

-- a token
token_spelled : (before : List ℕ) (byte : ℕ) (more text : List ℕ) (kind : TokenKind) (symbols : List Symbol)
    → BeginsToken kind (length (byte ∷ more)) byte (more ++ text) → Spells (before ++ byte ∷ more) text symbols
    → Spells before (byte ∷ (more ++ text))
    (symbol_of (lexeme_of kind (byte ∷ more)) (name_of kind (byte ∷ more)) ∷ symbols)
token_spelled before byte more text kind symbols is rest begins_line =
    let word = byte ∷ more in
    let whole = before ++ (word ++ text) in
    let place = length before in
    let left = scan_from false 0 (length (before ++ word)) text in
    let scan_is : scan_from begins_line 0 place (word ++ text) ≡ with_token (token_at place kind (length word)) left =
    is begins_line place
    ∙ ap (with_token (token_at place kind (length word)))
    (ap (λ (n : ℕ). scan_from false n (place + 1) (more ++ text))
    (let e : length word - 1 ≡ length more = omega arith in e)
    ∙ passed_over false (length more) (place + 1) (more ++ text)
    ∙ ap (λ (list : List ℕ). scan_from false 0 (place + 1 + length more) list) (drop-append_seam more text)
    ∙ ap (λ (at : ℕ). scan_from false 0 at text)
    (let e = length-append before word in
    let f : place + 1 + length more ≡ length (before ++ word) = omega (arith, e) in f)) in
    let last : IsSpelled whole left symbols =
    carried ((before ++ word) ++ text) whole left left symbols (append_assoc before word text) refl (rest false) in
    carried whole whole (with_token (token_at place kind (length word)) left)
    (scan_from begins_line 0 place (word ++ text))
    (symbol_of (lexeme_of kind word) (name_of kind word) ∷ symbols) refl (sym scan_is)
    (record {
      whole = last.whole;
      spelled =
          ap (λ (list : List Symbol). symbol_at whole (token_at place kind (length word)) ∷ list) last.spelled
          ∙ ap (λ (t : List ℕ). symbol_of (lexeme_of kind t) (name_of kind t) ∷ symbols) (text_is before word text kind);
    })

-- a part of a text that gives these symbols, whatever follows it
pub record Gives (part : List ℕ) (symbols : List Symbol) : Type 0 where
  pub over : (before text : List ℕ) (after : List Symbol) → Spells (before ++ part) text after
      → Spells before (part ++ text) (symbols ++ after)

moved : (before text other : List ℕ) (symbols : List Symbol) → text ≡ other → Spells before text symbols
    → Spells before other symbols
moved before text other symbols same = subst (λ (t : List ℕ). Spells before t symbols) same

-- nothing
pub gives_nothing : Gives [] []
gives_nothing = record {
  over = λ before text after rest. subst (λ (b : List ℕ). Spells b text after) (append-nil before) rest;
}

-- one part and another
pub gives_both : (one other : List ℕ) (first second : List Symbol) → Gives one first → Gives other second
    → Gives (one ++ other) (first ++ second)
gives_both one other first second gives following = record {
  over = λ before text after rest.
      moved before (one ++ (other ++ text)) ((one ++ other) ++ text) ((first ++ second) ++ after)
      (sym (append_assoc one other text))
      (subst (Spells before (one ++ (other ++ text))) (sym (append_assoc first second after))
      (gives.over before (other ++ text) (second ++ after)
      (following.over (before ++ one) text after
      (subst (λ (b : List ℕ). Spells b text after) (sym (append_assoc before one other)) rest))));
}

-- white space alone
pub gives_blank : (byte : ℕ) → IsBlank byte → Gives (byte ∷ []) []
gives_blank byte is = record {
  over = λ before text after rest.
      blank_spelled before byte text after is rest;
}

-- a sign other than `(`
pub gives_sign : (byte : ℕ) (it : Symbol) → ((rest : List ℕ) → BeginsToken Sign 1 byte rest)
    → symbol_of (sign_of (byte ∷ [])) (byte ∷ []) ≡ it → Gives (byte ∷ []) (it ∷ [])
unfolding lexeme_of
gives_sign byte it is same = record {
  over = λ before text after rest.
      subst (λ (s : Symbol). Spells before (byte ∷ text) (s ∷ after)) same
      (token_spelled before byte [] text Sign after (is text) rest);
}

-- a word: its first byte begins a name, and each may be in one
pub record IsWord (word : List ℕ) : Type 0 where
  pub first : ℕ
  pub more : List ℕ
  pub is : word ≡ first ∷ more
  pub begins : (rest : List ℕ) → BeginsToken Name (name_len (first ∷ rest)) first rest
  pub bytes : list_all is_name_byte word ≡ true
  pub opened : (rest : List ℕ) → BeginsToken Sign 1 40 (first ∷ rest)

-- a name ends before a byte that may not be in it
name_ends : (word : List ℕ) (next : ℕ) (text : List ℕ) → list_all is_name_byte word ≡ true → is_name_byte next ≡ false
    → name_len (word ++ next ∷ text) ≡ length word
name_ends [] next text all ends = ap (λ (b : Bool). if b then 1 + prefix_len is_name_byte text else 0) ends
name_ends (byte ∷ word) next text all ends =
    let both = and_true (is_name_byte byte) (list_all is_name_byte word) all in
    ap (λ (b : Bool). if b then 1 + prefix_len is_name_byte (word ++ next ∷ text) else 0) both.0
    ∙ ap (λ (n : ℕ). 1 + n) (name_ends word next text both.1 ends)
    ∙ (let e : 1 + length word ≡ length (byte ∷ word) = omega arith in e)
  where
    and_true : (a b : Bool) → (a && b) ≡ true → (a ≡ true) × (b ≡ true)
    and_true true b is = (refl, is)
    and_true false b is = absurd cc

-- a word and what follows it, which begins with a byte that may not be in it
pub gives_word : (word : List ℕ) (next : ℕ) (tail : List ℕ) (symbol : Symbol) (symbols : List Symbol) → IsWord word
    → symbol_of (word_of word) word ≡ symbol → is_name_byte next ≡ false → Gives (next ∷ tail) symbols
    → Gives (word ++ next ∷ tail) (symbol ∷ symbols)
unfolding lexeme_of
gives_word word next tail symbol symbols it same ends gives = record {
  over = λ before text after rest.
      let following : Spells (before ++ word) (next ∷ (tail ++ text)) (symbols ++ after) =
      gives.over (before ++ word) text after
      (subst (λ (b : List ℕ). Spells b text after) (sym (append_assoc before word (next ∷ tail))) rest) in
      let len : name_len (it.first ∷ (it.more ++ next ∷ (tail ++ text))) ≡ length (it.first ∷ it.more) =
      ap (λ (w : List ℕ). name_len (w ++ next ∷ (tail ++ text))) (sym it.is)
      ∙ name_ends word next (tail ++ text) it.bytes ends ∙ ap length it.is in
      let token : BeginsToken Name (length (it.first ∷ it.more)) it.first (it.more ++ next ∷ (tail ++ text)) =
      subst (λ (n : ℕ). BeginsToken Name n it.first (it.more ++ next ∷ (tail ++ text))) len
      (it.begins (it.more ++ next ∷ (tail ++ text))) in
      moved before (word ++ (next ∷ (tail ++ text))) ((word ++ next ∷ tail) ++ text) (symbol ∷ (symbols ++ after))
      (sym (append_assoc word (next ∷ tail) text))
      (subst (λ (s : Symbol). Spells before (word ++ next ∷ (tail ++ text)) (s ∷ (symbols ++ after))) same
      (subst (λ (w : List ℕ). Spells before (w ++ next ∷ (tail ++ text)) (symbol_of (word_of w) w ∷ (symbols ++ after)))
      (sym it.is)
      (token_spelled before it.first it.more (next ∷ (tail ++ text)) Name (symbols ++ after) token
      (subst (λ (w : List ℕ). Spells (before ++ w) (next ∷ (tail ++ text)) (symbols ++ after)) it.is following))));
}

-- `(` before a text that doesn't begin with `*`
pub gives_open : (first : ℕ) (tail : List ℕ) (symbols : List Symbol)
    → ((rest : List ℕ) → BeginsToken Sign 1 40 (first ∷ rest)) → Gives (first ∷ tail) symbols
    → Gives (40 ∷ first ∷ tail) (Symbol.other lexeme.Open ∷ symbols)
unfolding lexeme_of sign_of
gives_open first tail symbols is gives = record {
  over = λ before text after rest.
      token_spelled before 40 [] (first ∷ (tail ++ text)) Sign (symbols ++ after) (is (tail ++ text))
      (gives.over (before ++ 40 ∷ []) text after
      (subst (λ (b : List ℕ). Spells b text after) (sym (append_assoc before (40 ∷ []) (first ∷ tail))) rest));
}

-- `(` before a word
pub gives_opened : (word tail : List ℕ) (symbols : List Symbol) → IsWord word → Gives (word ++ tail) symbols
    → Gives (40 ∷ (word ++ tail)) (Symbol.other lexeme.Open ∷ symbols)
gives_opened word tail symbols it gives =
    subst (λ (w : List ℕ). Gives (40 ∷ (w ++ tail)) (Symbol.other lexeme.Open ∷ symbols)) (sym it.is)
    (gives_open it.first (it.more ++ tail) symbols it.opened
    (subst (λ (w : List ℕ). Gives (w ++ tail) symbols) it.is gives))
