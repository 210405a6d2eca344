-- The steps of a pair read what its form reads.
use Rattle.std.proofs.Common.{◌≡◌, ℕ, ◌==◌, Bool, true, List, [], ◌∷◌, ◌++◌, length, codes, Option, refl, sym}
use Rattle.std.proofs.Common.{ap, ◌∙◌, append_assoc}
use Rattle.std.specs.Prelude.{⊤}
use Rattle.std.proofs.lemmas.List.{append-nil}
use Rattle.ca_net.specs.declared.trit.Trit.{Trit}
use Rattle.ca_stil_form.specs.Form.{Token, Outcome, Got, Stuck, mapped, with_first, read_after, read_one}
use Rattle.ca_stil_form.specs.Form.{read_fixed, read_each}
use Rattle.ca_stil_form.specs.Grammar.{Piece, Form, and_then, following, before, for_each, spelled_value}
use Rattle.ca_stil_form.specs.Grammar.{word}
use Rattle.ca_stil_form.specs.Grammar.{fixed}
use Rattle.ca_stil_form.specs.Tokens.{tokens_of}
use Rattle.ca_stil_form.specs.Frame.{Member, Frame, load_members, unload_members, group_member, key_inputs}
use Rattle.ca_stil_form.specs.Frame.{key_outputs}
use Rattle.ca_stil_form.specs.Pattern.{PairValues, bits_form, levels_form, bits_word, bits_in, levels_word}
use Rattle.ca_stil_form.specs.Pattern.{levels_in, member_begins}
use Rattle.ca_stil_form.specs.Pattern.{pair_form, pair_begins, load_ends, first_ends, last_ends, unload_ends}
use Rattle.ca_stil_read.specs.declared.plan.Step.{Step}
use Rattle.ca_stil_read.specs.declared.plan.Step.TheVariants as step
use Rattle.ca_stil_read.specs.Onward.{onward}
use Rattle.ca_stil_read.specs.Plan.{Flat, joined, flat, flat_captured, flat_expected, flat_last}
use Rattle.ca_stil_read.specs.Plan.{flat_last_state, flat_first, flat_pair}
use Rattle.ca_stil_read.specs.Plan.{read_step, read_steps, member_steps, bits_step, levels_step, pair_steps}
use Rattle.ca_stil_read.specs.Plan.{read_pair, bits_of, levels_of}
use Rattle.ca_stil_read.specs.Plan.{unload_steps, last_steps, first_steps}
use Rattle.ca_stil_read.proofs.OnwardLemmas.{after_onward, before_onward}

pub joined_none : (read : Outcome Flat) → mapped (joined ([], [])) read ≡ read
joined_none (Got value rest) = refl
joined_none (Stuck rest) = refl

-- fixed tokens are passed, and the steps go on
pub due_step : (due : List Token) (steps : List Step) (tokens : List Token)
    → read_steps (step.Due due ∷ steps) tokens ≡ onward (read_fixed due tokens) (λ passed. read_steps steps)
unfolding read_steps
due_step due steps tokens = by (read_fixed due tokens)
  where
    by : (given : Outcome ⊤) → onward (mapped (λ passed. ([], [])) given) (λ one rest. mapped (joined one) (read_steps steps rest))
        ≡ onward given (λ passed. read_steps steps)
    by (Got passed rest) = joined_none (read_steps steps rest)
    by (Stuck rest) = refl

pub due_level : {Value : Type 0} (piece : Piece) (form : Form Value) (view : Value → Flat) (steps : List Step)
    → ((tokens : List Token) → mapped view (form.read tokens) ≡ read_steps steps tokens)
    → (tokens : List Token) → mapped view ((following piece form).read tokens) ≡ read_steps (step.Due piece.tokens ∷ steps) tokens
due_level piece form view steps same tokens =
    after_onward view piece form tokens
    ∙ (λ j. onward (read_fixed piece.tokens tokens) (λ passed rest. same rest j))
    ∙ sym (due_step piece.tokens steps tokens)

-- a word of some kind: how its value is put among the others
pub record IsKind {Value : Type 0} (value_of : Member → Token → Option (List Value)) (kind : Member → Step) (put : List Value → Flat) : Type 0 where
  pub reads : (member : Member) (tokens : List Token) → read_step (kind member) tokens ≡ mapped put (read_one (value_of member) tokens)
  pub more : (one more : List Value) (rest : Flat) → joined (put (one ++ more)) rest ≡ joined (put one) (joined (put more) rest)
  pub none : (rest : Flat) → joined (put []) rest ≡ rest

-- what a member reads as
abbrev pub read_member : {Value : Type 0} → (Member → Token → Option (List Value)) → Member → List Token → Outcome (List Value)
read_member value_of member tokens =
    onward (read_fixed (member_begins member).tokens tokens) (λ passed begun.
    onward (read_one (value_of member) begun) (λ values following.
    mapped (λ passed. values) (read_fixed (tokens_of (codes ";")) following)))

-- the steps of a member read its values
member_step : {Value : Type 0} (value_of : Member → Token → Option (List Value)) (kind : Member → Step) (put : List Value → Flat)
    → IsKind value_of kind put → (member : Member) (steps : List Step) (tokens : List Token)
    → read_steps (step.Due (member_begins member).tokens ∷ kind member ∷ step.Due (tokens_of (codes ";")) ∷ steps) tokens
    ≡ onward (read_member value_of member tokens) (λ values rest. mapped (joined (put values)) (read_steps steps rest))
unfolding read_steps
member_step {Value} value_of kind put is member steps tokens =
    due_step (member_begins member).tokens (kind member ∷ step.Due semicolon ∷ steps) tokens
    ∙ by_begin (read_fixed (member_begins member).tokens tokens)
  where
    semicolon : List Token
    semicolon = tokens_of (codes ";")

    by_end : (values : List Value) (given : Outcome ⊤)
        → mapped (joined (put values)) (onward given (λ passed. read_steps steps))
        ≡ onward (mapped (λ passed. values) given) (λ values rest. mapped (joined (put values)) (read_steps steps rest))
    by_end values (Got passed rest) = refl
    by_end values (Stuck rest) = refl

    by_word : (given : Outcome (List Value))
        → onward (mapped put given) (λ one rest. mapped (joined one) (read_steps (step.Due semicolon ∷ steps) rest))
        ≡ onward (onward given (λ values following. mapped (λ passed. values) (read_fixed semicolon following)))
        (λ values rest. mapped (joined (put values)) (read_steps steps rest))
    by_word (Got values rest) =
        ap (mapped (joined (put values))) (due_step semicolon steps rest) ∙ by_end values (read_fixed semicolon rest)
    by_word (Stuck rest) = refl

    by_begin : (given : Outcome ⊤)
        → onward given (λ passed. read_steps (kind member ∷ step.Due semicolon ∷ steps))
        ≡ onward (onward given (λ passed begun. onward (read_one (value_of member) begun) (λ values following.
        mapped (λ passed. values) (read_fixed semicolon following))))
        (λ values rest. mapped (joined (put values)) (read_steps steps rest))
    by_begin (Got passed rest) =
        ap (λ (given : Outcome Flat). onward given (λ one rest. mapped (joined one) (read_steps (step.Due semicolon ∷ steps) rest))) (is.reads member rest)
        ∙ by_word (read_one (value_of member) rest)
    by_begin (Stuck rest) = refl

-- a member's form reads its values
member_reads : {Value : Type 0} (allowed : List Value → Bool) (spelled : List Value → Token) (look : Token → List Value) (member : Member) (tokens : List Token)
    → (following (member_begins member) (before (word allowed spelled look) (fixed (codes ";")))).read tokens
    ≡ read_member (λ member. spelled_value allowed spelled look) member tokens
member_reads {Value} allowed spelled look member tokens =
    sym (seen ((following (member_begins member) (before (word allowed spelled look) (fixed (codes ";")))).read tokens))
    ∙ after_onward (λ values. values) (member_begins member) (before (word allowed spelled look) (fixed (codes ";"))) tokens
    ∙ (λ j. onward (read_fixed (member_begins member).tokens tokens) (λ passed begun.
    before_onward (λ values. values) (word allowed spelled look) (fixed (codes ";")) begun j))
  where
    seen : (read : Outcome (List Value)) → mapped (λ values. values) read ≡ read
    seen (Got value rest) = refl
    seen (Stuck rest) = refl

-- members, one behind another, and a form after them
each_level : {Value Next : Type 0} (form : Member → Form (List Value)) (value_of : Member → Token → Option (List Value)) (kind : Member → Step)
    (put : List Value → Flat) → IsKind value_of kind put
    → ((member : Member) (tokens : List Token) → (form member).read tokens ≡ read_member value_of member tokens)
    → (members : List Member) (next : List (List Value) → Form Next) (view : Next → Flat) (steps : List Step)
    → ((lists : List (List Value)) (tokens : List Token) → mapped view ((next lists).read tokens) ≡ read_steps steps tokens)
    → (tokens : List Token)
    → mapped (λ both. joined (put (flat both.0)) (view both.1)) ((and_then (for_each form members) next).read tokens)
    ≡ read_steps (member_steps kind members ++ steps) tokens
unfolding read_each member_steps
each_level {Value} {Next} form value_of kind put is reads [] next view steps same tokens = by ((next []).read tokens) ∙ same [] tokens
  where
    by : (given : Outcome Next) → mapped (λ both. joined (put (flat both.0)) (view both.1)) (with_first [] given) ≡ mapped view given
    by (Got value rest) = ap (λ (given : Flat). Got given rest) (is.none (view value))
    by (Stuck rest) = refl
each_level {Value} {Next} form value_of kind put is reads (member ∷ members) next view steps same tokens =
    ap (λ (given : Outcome (List Value)). whole given) (reads member tokens)
    ∙ by_member (read_member value_of member tokens)
    (λ values rest. each_level form value_of kind put is reads members (λ lists. next (values ∷ lists)) view steps (λ lists. same (values ∷ lists)) rest)
    ∙ sym (member_step value_of kind put is member (member_steps kind members ++ steps) tokens)
  where
    whole : Outcome (List Value) → Outcome Flat
    whole given = mapped (λ both. joined (put (flat both.0)) (view both.1))
        (read_after (mapped (λ both. both.0 ∷ both.1) (read_after given (λ item. read_each (λ member. (form member).read) members))) (λ lists. (next lists).read))

    by_next : (values : List Value) (lists : List (List Value)) (given : Outcome Next)
        → mapped (λ both. joined (put (flat both.0)) (view both.1)) (with_first (values ∷ lists) given)
        ≡ mapped (joined (put values)) (mapped (λ both. joined (put (flat both.0)) (view both.1)) (with_first lists given))
    by_next values lists (Got value rest) = ap (λ (given : Flat). Got given rest) (is.more values (flat lists) (view value))
    by_next values lists (Stuck rest) = refl

    by_each : (values : List Value) (given : Outcome (List (List Value)))
        → mapped (λ both. joined (put (flat both.0)) (view both.1))
        (read_after (mapped (λ both. both.0 ∷ both.1) (with_first values given)) (λ lists. (next lists).read))
        ≡ mapped (joined (put values)) (mapped (λ both. joined (put (flat both.0)) (view both.1)) (read_after given (λ lists. (next (values ∷ lists)).read)))
    by_each values (Got lists rest) = by_next values lists ((next (values ∷ lists)).read rest)
    by_each values (Stuck rest) = refl

    by_member : (given : Outcome (List Value))
        → ((values : List Value) (rest : List Token)
        → mapped (λ both. joined (put (flat both.0)) (view both.1)) ((and_then (for_each form members) (λ lists. next (values ∷ lists))).read rest)
        ≡ read_steps (member_steps kind members ++ steps) rest)
        → whole given ≡ onward given (λ values rest. mapped (joined (put values)) (read_steps (member_steps kind members ++ steps) rest))
    by_member (Got values rest) later =
        by_each values (read_each (λ member. (form member).read) members rest) ∙ ap (mapped (joined (put values))) (later values rest)
    by_member (Stuck rest) later = refl

-- bits and values
bits_kind : IsKind (λ member. bits_of member.used member.filled) bits_step (λ bits. (bits, []))
bits_kind = record {
  reads = λ member tokens. refl;
  more = λ one more rest. (λ j. (append_assoc one more rest.0 j, rest.1));
  none = λ rest. refl;
}

levels_kind : IsKind (λ member. levels_of member.used member.filled) levels_step (λ levels. ([], levels))
levels_kind = record {
  reads = λ member tokens. refl;
  more = λ one more rest. (λ j. (rest.0, append_assoc one more rest.1 j));
  none = λ rest. refl;
}

bits_level : {Next : Type 0} (members : List Member) (next : List (List Bool) → Form Next) (view : Next → Flat) (steps : List Step)
    → ((lists : List (List Bool)) (tokens : List Token) → mapped view ((next lists).read tokens) ≡ read_steps steps tokens)
    → (tokens : List Token)
    → mapped (λ both. joined (flat both.0, []) (view both.1)) ((and_then (for_each bits_form members) next).read tokens)
    ≡ read_steps (member_steps bits_step members ++ steps) tokens
bits_level members next view steps same tokens =
    each_level bits_form (λ member. bits_of member.used member.filled) bits_step (λ bits. (bits, [])) bits_kind
    (λ member rest. member_reads (λ bits. length bits == member.used) (bits_word member) (bits_in member) member rest)
    members next view steps same tokens

levels_level : {Next : Type 0} (members : List Member) (next : List (List Trit) → Form Next) (view : Next → Flat) (steps : List Step)
    → ((lists : List (List Trit)) (tokens : List Token) → mapped view ((next lists).read tokens) ≡ read_steps steps tokens)
    → (tokens : List Token)
    → mapped (λ both. joined ([], flat both.0) (view both.1)) ((and_then (for_each levels_form members) next).read tokens)
    ≡ read_steps (member_steps levels_step members ++ steps) tokens
levels_level members next view steps same tokens =
    each_level levels_form (λ member. levels_of member.used member.filled) levels_step (λ levels. ([], levels)) levels_kind
    (λ member rest. member_reads (λ levels. length levels == member.used) (levels_word member) (levels_in member) member rest)
    members next view steps same tokens

-- the last values, and what ends the pair
nothing : Form ⊤
nothing = record { allowed = λ done. true; text = λ done. []; written = λ done. []; read = λ tokens. Got tt tokens }

captured_level : (members : List Member) (piece : Piece) (tokens : List Token)
    → mapped flat_captured ((before (for_each levels_form members) piece).read tokens)
    ≡ read_steps (member_steps levels_step members ++ step.Due piece.tokens ∷ []) tokens
unfolding read_steps nothing
captured_level members piece tokens =
    by (read_each (λ member. (levels_form member).read) members tokens)
    ∙ levels_level members (λ lists. following piece nothing) (λ done. ([], [])) (step.Due piece.tokens ∷ [])
    (λ lists rest. due_level piece nothing (λ done. ([], [])) [] (λ after. refl) rest) tokens
  where
    by_end : (lists : List (List Trit)) (given : Outcome ⊤)
        → mapped flat_captured (mapped (λ (both : List (List Trit) × ⊤). both.0) (with_first lists given))
        ≡ mapped (λ both. joined ([], flat both.0) ([], [])) (with_first lists (mapped (λ (both : ⊤ × ⊤). both.1) (read_after given (λ done tokens. Got tt tokens))))
    by_end lists (Got passed rest) = ap (λ (given : List Trit). Got ([], given) rest) (sym (append-nil (flat lists)))
    by_end lists (Stuck rest) = refl

    by : (given : Outcome (List (List Trit)))
        → mapped flat_captured (mapped (λ (both : List (List Trit) × ⊤). both.0) (read_after given (λ lists. read_fixed piece.tokens)))
        ≡ mapped (λ both. joined ([], flat both.0) ([], [])) (read_after given (λ lists. (following piece nothing).read))
    by (Got lists rest) = by_end lists (read_fixed piece.tokens rest)
    by (Stuck rest) = refl

-- the form of a pair from each of its lists on
abbrev unload_part : Frame → Form (List (List Trit))
unload_part frame = before (for_each levels_form (unload_members frame.chains)) (unload_ends frame.chains)

abbrev expected_part : Frame → Form (List (List Trit) × List (List Trit))
expected_part frame =
    and_then (for_each levels_form (group_member key_outputs frame.outputs)) (λ expected. following (last_ends frame) (unload_part frame))

abbrev last_part : Frame → Form (List (List Bool) × (List (List Trit) × List (List Trit)))
last_part frame = and_then (for_each bits_form (group_member key_inputs frame.inputs)) (λ last. expected_part frame)

abbrev last_state_part : Frame → Form (List (List Bool) × (List (List Bool) × (List (List Trit) × List (List Trit))))
last_state_part frame =
    and_then (for_each bits_form (load_members frame.chains)) (λ state. following (load_ends frame.chains) (last_part frame))

abbrev first_part : Frame → Form (List (List Bool) × (List (List Bool) × (List (List Bool) × (List (List Trit) × List (List Trit)))))
first_part frame =
    and_then (for_each bits_form (group_member key_inputs frame.inputs)) (λ first. following (first_ends frame) (last_state_part frame))

abbrev first_state_part : Frame → Form PairValues
first_state_part frame =
    and_then (for_each bits_form (load_members frame.chains)) (λ state. following (load_ends frame.chains) (first_part frame))

expected_flat : (frame : Frame) (tokens : List Token)
    → mapped flat_expected ((expected_part frame).read tokens)
    ≡ read_steps (member_steps levels_step (group_member key_outputs frame.outputs) ++ unload_steps frame) tokens
expected_flat frame tokens =
    levels_level (group_member key_outputs frame.outputs) (λ expected. following (last_ends frame) (unload_part frame)) flat_captured (unload_steps frame)
    (λ expected rest. due_level (last_ends frame) (unload_part frame) flat_captured
    (member_steps levels_step (unload_members frame.chains) ++ step.Due (unload_ends frame.chains).tokens ∷ [])
    (captured_level (unload_members frame.chains) (unload_ends frame.chains)) rest) tokens

last_flat : (frame : Frame) (tokens : List Token)
    → mapped flat_last ((last_part frame).read tokens)
    ≡ read_steps (member_steps bits_step (group_member key_inputs frame.inputs)
    ++ (member_steps levels_step (group_member key_outputs frame.outputs) ++ unload_steps frame)) tokens
last_flat frame tokens =
    bits_level (group_member key_inputs frame.inputs) (λ last. expected_part frame) flat_expected
    (member_steps levels_step (group_member key_outputs frame.outputs) ++ unload_steps frame) (λ last. expected_flat frame) tokens

last_state_flat : (frame : Frame) (tokens : List Token)
    → mapped flat_last_state ((last_state_part frame).read tokens)
    ≡ read_steps (member_steps bits_step (load_members frame.chains) ++ last_steps frame) tokens
last_state_flat frame tokens =
    bits_level (load_members frame.chains) (λ state. following (load_ends frame.chains) (last_part frame)) flat_last (last_steps frame)
    (λ state rest. due_level (load_ends frame.chains) (last_part frame) flat_last
    (member_steps bits_step (group_member key_inputs frame.inputs)
    ++ (member_steps levels_step (group_member key_outputs frame.outputs) ++ unload_steps frame)) (last_flat frame) rest) tokens

first_flat : (frame : Frame) (tokens : List Token)
    → mapped flat_first ((first_part frame).read tokens)
    ≡ read_steps (member_steps bits_step (group_member key_inputs frame.inputs)
    ++ step.Due (first_ends frame).tokens ∷ (member_steps bits_step (load_members frame.chains) ++ last_steps frame)) tokens
first_flat frame tokens =
    bits_level (group_member key_inputs frame.inputs) (λ first. following (first_ends frame) (last_state_part frame)) flat_last_state
    (step.Due (first_ends frame).tokens ∷ (member_steps bits_step (load_members frame.chains) ++ last_steps frame))
    (λ first rest. due_level (first_ends frame) (last_state_part frame) flat_last_state
    (member_steps bits_step (load_members frame.chains) ++ last_steps frame) (last_state_flat frame) rest) tokens

first_state_flat : (frame : Frame) (tokens : List Token)
    → mapped flat_pair ((first_state_part frame).read tokens) ≡ read_steps (pair_steps frame) tokens
first_state_flat frame tokens =
    bits_level (load_members frame.chains) (λ state. following (load_ends frame.chains) (first_part frame)) flat_first (first_steps frame)
    (λ state rest. due_level (load_ends frame.chains) (first_part frame) flat_first
    (member_steps bits_step (group_member key_inputs frame.inputs)
    ++ step.Due (first_ends frame).tokens ∷ (member_steps bits_step (load_members frame.chains) ++ last_steps frame)) (first_flat frame) rest) tokens

-- a pair's form reads as its label and its steps do
pub pair_flat : (frame : Frame) (number : ℕ) (tokens : List Token)
    → mapped flat_pair ((pair_form frame number).read tokens) ≡ read_pair frame number tokens
pair_flat frame number tokens =
    due_level (pair_begins frame number) (first_state_part frame) flat_pair (pair_steps frame) (first_state_flat frame) tokens
    ∙ due_step (pair_begins frame number).tokens (pair_steps frame) tokens
