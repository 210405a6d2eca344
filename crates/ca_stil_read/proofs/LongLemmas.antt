-- A chain with more cells than any text has bytes: the first pair is faulty at its first word at the latest.
use Rattle.std.proofs.Common.{◌≡◌, ℕ, zero, suc, ◌+◌, ◌<◌, ◌≤◌, ◌^◌, true, false, Bool, List, [], ◌∷◌, ◌++◌, length}
use Rattle.std.proofs.Common.{codes, refl, sym, ap, ◌∙◌, arith, subst, take}
use Rattle.std.specs.Prelude.{⊤, Option, Some, None, map}
use Rattle.std.specs.Str.{bytes_eq}
use Rattle.ca_stil_form.specs.Form.{Token, Outcome, Got, Stuck, mapped, read_one, read_fixed}
use Rattle.ca_stil_form.specs.code.Form.{BeginsOther}
use Rattle.ca_stil_form.specs.Frame.{Chain, Frame, Names, Scan, Member, longest, load_member}
use Rattle.ca_stil_form.specs.Pattern.{pair_begins, member_begins}
use Rattle.ca_stil_form.specs.Tokens.{tokens_of, tokens_from, trimmed, first_len}
use Rattle.ca_stil_form.specs.code.Tokens.{IsTrimmed}
use Rattle.ca_lex.specs.Length.{number_of}
use Rattle.ca_stil_form.specs.Whole.{ports_of, numbered, chains_of, frame_of}
use Rattle.ca_stil_read.specs.declared.plan.Step.{Step}
use Rattle.ca_stil_read.specs.declared.plan.Step.TheVariants as step
use Rattle.ca_stil_read.specs.declared.stop.Stop.{Stop}
use Rattle.ca_stil_read.specs.declared.stop.Stop.TheVariants as stop
use Rattle.ca_stil_read.specs.declared.pair.TextPair.{TextPair}
use Rattle.ca_stil_read.specs.Kept.{pair_seen}
use Rattle.ca_stil_read.specs.code.Long.{first_due, BeginsShort}
use Rattle.ca_stil_read.specs.Onward.{onward}
use Rattle.ca_stil_read.specs.Plan.{Flat, joined, read_steps, bits_of, bits_step, member_steps}
use Rattle.ca_stil_read.specs.Plan.{first_steps, read_pair}
use Rattle.ca_stil_read.specs.code.Views.{IsStopped}
use Rattle.ca_stil_read.specs.Whole.{read_pairs}
use Rattle.ca_stil_read.proofs.LoopLemmas.{pairs_loop}
use Rattle.ca_stil_read.proofs.PlanLemmas.{due_step}
use Rattle.ca_stil_read.proofs.TokenLemmas.{first_cut, trimmed_is}
use Rattle.ca_stil_read.proofs.WordLemmas.{IsBitsWord, bits_none}

-- the tokens of a text are no longer than it is
taken_short : (count : ℕ) (text : List ℕ) → length (take count text) ≤ length text
taken_short zero text = omega arith
taken_short (suc count) [] = omega arith
taken_short (suc count) (byte ∷ text) = let less = taken_short count text in omega (arith, less)

short_at : (text : List ℕ) → IsTrimmed text → length text < 2 ^ 64 → BeginsShort (tokens_of text)
unfolding tokens_from
short_at [] is below = tt
short_at (byte ∷ text) is below =
    let less = taken_short (first_len (byte ∷ text)) (byte ∷ text) in
    subst BeginsShort (sym (first_cut (byte ∷ text) is)) (omega (arith, less, below))

pub short_tokens : (text : List ℕ) → length text < 2 ^ 64 → BeginsShort (tokens_of text)
short_tokens text below =
    let facts = trimmed_is text in
    subst BeginsShort facts.0 (short_at (trimmed text) facts.1 (omega (arith, facts.2, below)))

-- a word that is longer than any token
word_stuck : (used filled : ℕ) → 2 ^ 64 ≤ filled + used → (tokens : List Token) → BeginsShort tokens
    → read_one (bits_of used filled) tokens ≡ Stuck tokens
word_stuck used filled large [] short = refl
word_stuck used filled large (token ∷ tokens) short =
    (λ j. elim (bits_none used filled token (λ (is : IsBitsWord used filled token). omega (arith, large, short, is.total)) j)
    as (λ _. Outcome (List Bool)) [ None ↦ Stuck (token ∷ tokens) | Some value ↦ Got value tokens ])

-- steps that begin with such a word
steps_stuck : (used filled : ℕ) (steps : List Step) → 2 ^ 64 ≤ filled + used → (tokens : List Token) → BeginsShort tokens
    → read_steps (step.Bits used filled ∷ steps) tokens ≡ Stuck tokens
unfolding read_steps
steps_stuck used filled steps large tokens short =
    (λ j. onward (mapped (λ bits. (bits, [])) (word_stuck used filled large tokens short j))
    (λ one rest. mapped (joined one) (read_steps steps rest)))

-- fixed tokens, some after others
fixed_append : (one more tokens : List Token)
    → read_fixed (one ++ more) tokens ≡ onward (read_fixed one tokens) (λ passed. read_fixed more)
unfolding read_fixed
fixed_append [] more tokens = refl
fixed_append (due ∷ one) more [] = refl
fixed_append (due ∷ one) more (token ∷ tokens) = by (bytes_eq due token) (fixed_append one more tokens)
  where
    by : (same : Bool) → read_fixed (one ++ more) tokens ≡ onward (read_fixed one tokens) (λ passed. read_fixed more)
        → elim same as (λ _. Outcome ⊤) [ true ↦ read_fixed (one ++ more) tokens | false ↦ Stuck (token ∷ tokens) ]
        ≡ onward (elim same as (λ _. Outcome ⊤) [ true ↦ read_fixed one tokens | false ↦ Stuck (token ∷ tokens) ])
        (λ passed. read_fixed more)
    by true later = later
    by false later = refl

-- a label, a key and a word that is too long
abbrev too_long : List Token → List Token → ℕ → ℕ → List Step → List Token → Outcome Flat
too_long label key used filled steps tokens =
    onward (read_fixed label tokens) (λ passed. read_steps (step.Due key ∷ step.Bits used filled ∷ steps))

key_stuck : (key : List Token) (used filled : ℕ) (steps : List Step) (tokens rest : List Token) → 2 ^ 64 ≤ filled + used
    → read_fixed key tokens ≡ Got tt rest → BeginsShort rest
    → read_steps (step.Due key ∷ step.Bits used filled ∷ steps) tokens ≡ Stuck rest
key_stuck key used filled steps tokens rest large is short =
    due_step key (step.Bits used filled ∷ steps) tokens
    ∙ ap (λ (given : Outcome ⊤). onward given (λ passed. read_steps (step.Bits used filled ∷ steps))) is
    ∙ steps_stuck used filled steps large rest short

label_stuck : (label key : List Token) (used filled : ℕ) (steps : List Step) (tokens rest : List Token) → 2 ^ 64 ≤ filled + used
    → read_fixed (label ++ key) tokens ≡ Got tt rest → BeginsShort rest
    → too_long label key used filled steps tokens ≡ Stuck rest
label_stuck label key used filled steps tokens rest large is short =
    by (read_fixed label tokens) (sym (fixed_append label key tokens) ∙ is)
  where
    by : (given : Outcome ⊤) → onward given (λ passed. read_fixed key) ≡ Got tt rest
        → onward given (λ passed. read_steps (step.Due key ∷ step.Bits used filled ∷ steps)) ≡ Stuck rest
    by (Got passed mid) is = key_stuck key used filled steps mid rest large is short
    by (Stuck mid) is = absurd cc

label_early : (label key : List Token) (used filled : ℕ) (steps : List Step) (tokens rest : List Token)
    → read_fixed (label ++ key) tokens ≡ Stuck rest
    → too_long label key used filled steps tokens ≡ Stuck rest
label_early label key used filled steps tokens rest is =
    by (read_fixed label tokens) (sym (fixed_append label key tokens) ∙ is)
  where
    by : (given : Outcome ⊤) → onward given (λ passed. read_fixed key) ≡ Stuck rest
        → onward given (λ passed. read_steps (step.Due key ∷ step.Bits used filled ∷ steps)) ≡ Stuck rest
    by (Got passed mid) is =
        due_step key (step.Bits used filled ∷ steps) mid
        ∙ ap (λ (given : Outcome ⊤). onward given (λ passed. read_steps (step.Bits used filled ∷ steps))) is
    by (Stuck mid) is = let same : mid ≡ rest = cc in ap (λ (given : List Token). Stuck given) same

-- what a pair reads as, where the first chain is followed by others
pub record IsTooLong (scan : Option Scan) (frame : Frame) : Type 0 where
  pub label : List Token
  pub key : List Token
  pub used : ℕ
  pub filled : ℕ
  pub steps : List Step
  pub due : first_due scan ≡ label ++ key
  pub large : 2 ^ 64 ≤ filled + used
  pub reads : (tokens : List Token) → read_pair frame 0 tokens ≡ too_long label key used filled steps tokens

too_long_at : (inputs outputs : Option Names) (controls ins outs : Names) (cells : List (List ℕ))
    → 2 ^ 64 ≤ longest (chains_of (numbered 0 ins outs) cells)
    → IsTooLong (Some (controls, (ins, outs))) (frame_of inputs outputs (Some (controls, (ins, outs))) cells)
unfolding numbered chains_of longest member_steps
too_long_at inputs outputs controls [] outs cells large = absurd (omega (arith, large))
too_long_at inputs outputs controls (name ∷ ins) [] cells large = absurd (omega (arith, large))
too_long_at inputs outputs controls (name ∷ ins) (out ∷ outs) [] large = absurd (omega (arith, large))
too_long_at inputs outputs controls (name ∷ ins) (out ∷ outs) (digits ∷ cells) large =
    let frame : Frame = frame_of inputs outputs (Some (controls, (name ∷ ins, out ∷ outs))) (digits ∷ cells) in
    let more : List Chain = chains_of (numbered (0 + 1) ins outs) cells in
    let first : Member = load_member (longest frame.chains) (record { scan_in = name; scan_out = out; cells = number_of digits }) in
    record {
      label = (pair_begins frame 0).tokens;
      key = (member_begins first).tokens;
      used = first.used;
      filled = first.filled;
      steps = step.Due (tokens_of (codes ";"))
          ∷ member_steps bits_step (map (load_member (longest frame.chains)) more) ++ first_steps frame;
      due = refl;
      large = omega (arith, large);
      reads = λ tokens. refl;
    }

too_long_of : (inputs outputs : Option Names) (scan : Option Scan) (cells : List (List ℕ))
    → 2 ^ 64 ≤ longest (chains_of (ports_of scan) cells) → IsTooLong scan (frame_of inputs outputs scan cells)
unfolding chains_of longest
too_long_of inputs outputs None cells large = absurd (omega (arith, large))
too_long_of inputs outputs (Some scan) cells large = too_long_at inputs outputs scan.0 scan.1.0 scan.1.1 cells large

-- so a first pair isn't read
pub pair_stuck : (inputs outputs : Option Names) (scan : Option Scan) (cells : List (List ℕ)) (text rest : List ℕ)
    → 2 ^ 64 ≤ longest (chains_of (ports_of scan) cells) → length rest < 2 ^ 64
    → read_fixed (first_due scan) (tokens_of text) ≡ Got tt (tokens_of rest)
    → read_pair (frame_of inputs outputs scan cells) 0 (tokens_of text) ≡ Stuck (tokens_of rest)
pair_stuck inputs outputs scan cells text rest large below is =
    let long = too_long_of inputs outputs scan cells large in
    long.reads (tokens_of text)
    ∙ label_stuck long.label long.key long.used long.filled long.steps (tokens_of text) (tokens_of rest) long.large
    (ap (λ (due : List Token). read_fixed due (tokens_of text)) (sym long.due) ∙ is) (short_tokens rest below)

pub pair_early : (inputs outputs : Option Names) (scan : Option Scan) (cells : List (List ℕ)) (text : List ℕ) (why : Stop)
    → 2 ^ 64 ≤ longest (chains_of (ports_of scan) cells)
    → IsStopped why (read_fixed (first_due scan) (tokens_of text))
    → IsStopped why (read_pair (frame_of inputs outputs scan cells) 0 (tokens_of text))
pair_early inputs outputs scan cells text (stop.Stuck rest) large is =
    let long = too_long_of inputs outputs scan cells large in
    long.reads (tokens_of text)
    ∙ label_early long.label long.key long.used long.filled long.steps (tokens_of text) (tokens_of rest.now)
    (ap (λ (due : List Token). read_fixed due (tokens_of text)) (sym long.due) ∙ is)
pair_early inputs outputs scan cells text stop.NoMemory large is = tt

-- the tokens that are due are those of a list
pub due_passed : (due wanted passed tokens rest : List Token) → due ≡ wanted → passed ≡ due
    → read_fixed passed tokens ≡ Got tt rest → read_fixed wanted tokens ≡ Got tt rest
due_passed due wanted passed tokens rest due_is passed_is is =
    ap (λ (given : List Token). read_fixed given tokens) (sym (passed_is ∙ due_is)) ∙ is

pub due_stopped : (due wanted passed tokens : List Token) (why : Stop) → due ≡ wanted → passed ≡ due
    → IsStopped why (read_fixed passed tokens) → IsStopped why (read_fixed wanted tokens)
due_stopped due wanted passed tokens why due_is passed_is is =
    subst (λ (given : List Token). IsStopped why (read_fixed given tokens)) (passed_is ∙ due_is) is

-- the pairs from the first on: none, closed at once, or none that is read
pub pairs_early : (frame : Frame) (tokens : List Token) → tokens ≡ [] → read_pairs frame 0 tokens ≡ Stuck tokens
pairs_early frame tokens none =
    ap (read_pairs frame 0) none ∙ (pairs_loop frame).early 0 ∙ ap (λ (given : List Token). Stuck given) (sym none)

pub pairs_close : (frame : Frame) (tokens : List Token) (token : Token) (rest : List Token) (pairs : List TextPair)
    → tokens ≡ token ∷ rest → bytes_eq (codes "}") token ≡ true → pairs ≡ []
    → read_pairs frame 0 tokens ≡ Got (map pair_seen pairs) rest
pairs_close frame tokens token rest pairs begins closes none =
    ap (read_pairs frame 0) begins ∙ (pairs_loop frame).closes 0 token rest closes
    ∙ ap (λ (given : List TextPair). Got (map pair_seen given) rest) (sym none)

pub pairs_stop : (frame : Frame) (tokens : List Token) (why : Stop) → BeginsOther (codes "}") tokens
    → IsStopped why (read_pair frame 0 tokens) → IsStopped why (read_pairs frame 0 tokens)
pairs_stop frame tokens (stop.Stuck rest) begins is = (pairs_loop frame).stops 0 tokens _ begins is
pairs_stop frame tokens stop.NoMemory begins is = tt
