-- The statements of a pair as steps, and what they read: all bits one after another, and all expected
-- values.
use Rattle.std.specs.Prelude.{ℕ, ◌==◌, Bool, List, [], ◌∷◌, ◌++◌, length, codes, Option}
use Rattle.std.specs.List.{flat_map}
use Rattle.ca_net.specs.declared.trit.Trit.{Trit}
use Rattle.ca_stil_form.specs.Form.{Token, Outcome, Got, mapped, read_one, read_fixed}
use Rattle.ca_stil_form.specs.Grammar.{spelled_value}
use Rattle.ca_stil_form.specs.Tokens.{tokens_of}
use Rattle.ca_stil_form.specs.Frame.{Member, Frame, load_members, unload_members, group_member}
use Rattle.ca_stil_form.specs.Frame.{key_inputs, key_outputs}
use Rattle.ca_stil_form.specs.Pattern.{PairValues, bits_word, bits_in, levels_word, levels_in, member_begins}
use Rattle.ca_stil_form.specs.Pattern.{pair_begins, load_ends, first_ends, last_ends, unload_ends}
use Rattle.ca_stil_read.specs.declared.plan.Step.{Step}
use Rattle.ca_stil_read.specs.declared.plan.Step.TheVariants as step
use Rattle.ca_stil_read.specs.Onward.{onward}

-- the bits of a pair in the order of its text, and its expected values
abbrev pub Flat : Type 0
Flat = List Bool × List Trit

-- some bits and values, and more after them
abbrev pub joined : Flat → Flat → Flat
joined one more = (one.0 ++ more.0, one.1 ++ more.1)

-- lists, one after another
abbrev pub flat : {Value : Type 0} → List (List Value) → List Value
flat lists = flat_map (λ list. list) lists

-- the values of a pair, one after another, from each of their lists on
abbrev pub flat_captured : List (List Trit) → Flat
flat_captured captured = ([], flat captured)

abbrev pub flat_expected : List (List Trit) × List (List Trit) → Flat
flat_expected both = joined ([], flat both.0) (flat_captured both.1)

abbrev pub flat_last : List (List Bool) × (List (List Trit) × List (List Trit)) → Flat
flat_last both = joined (flat both.0, []) (flat_expected both.1)

abbrev pub flat_last_state : List (List Bool) × (List (List Bool) × (List (List Trit) × List (List Trit)))
    → Flat
flat_last_state both = joined (flat both.0, []) (flat_last both.1)

abbrev pub flat_first : List (List Bool)
    × (List (List Bool) × (List (List Bool) × (List (List Trit) × List (List Trit)))) → Flat
flat_first both = joined (flat both.0, []) (flat_last_state both.1)

abbrev pub flat_pair : PairValues → Flat
flat_pair both = joined (flat both.0, []) (flat_first both.1)

-- a member of a statement whose word has `used` values, beside `filled` that fill up
abbrev pub member_of : ℕ → ℕ → Member
member_of used filled = record { key = []; used = used; filled = filled }

-- the bits, and the values, that a token spells for a member
abbrev pub bits_of : ℕ → ℕ → Token → Option (List Bool)
bits_of used filled =
    spelled_value (λ bits. length bits == used) (bits_word (member_of used filled))
    (bits_in (member_of used filled))

abbrev pub levels_of : ℕ → ℕ → Token → Option (List Trit)
levels_of used filled =
    spelled_value (λ levels. length levels == used) (levels_word (member_of used filled))
    (levels_in (member_of used filled))

-- what a step reads
abbrev pub read_step : Step → List Token → Outcome Flat
read_step (step.Due due) tokens = mapped (λ passed. ([], [])) (read_fixed due tokens)
read_step (step.Bits used filled) tokens = mapped (λ bits. (bits, [])) (read_one (bits_of used filled) tokens)
read_step (step.Levels used filled) tokens =
    mapped (λ levels. ([], levels)) (read_one (levels_of used filled) tokens)

-- what steps read
unfoldable pub read_steps : List Step → List Token → Outcome Flat
read_steps [] tokens = Got ([], []) tokens
read_steps (step ∷ steps) tokens =
    onward (read_step step tokens) (λ one rest. mapped (joined one) (read_steps steps rest))

-- the steps of members, of which each has a word of this kind
unfoldable pub member_steps : (Member → Step) → List Member → List Step
member_steps kind [] = []
member_steps kind (member ∷ members) =
    step.Due (member_begins member).tokens ∷ kind member ∷ step.Due (tokens_of (codes ";"))
    ∷ member_steps kind members

abbrev pub bits_step : Member → Step
bits_step member = step.Bits member.used member.filled

abbrev pub levels_step : Member → Step
levels_step member = step.Levels member.used member.filled

-- the steps of a pair after its label: of what captures and unloads, of the second half, of the first one
abbrev pub unload_steps : Frame → List Step
unload_steps frame =
    step.Due (last_ends frame).tokens ∷ (member_steps levels_step (unload_members frame.chains)
    ++ step.Due (unload_ends frame.chains).tokens ∷ [])

abbrev pub last_steps : Frame → List Step
last_steps frame =
    step.Due (load_ends frame.chains).tokens
    ∷ (member_steps bits_step (group_member key_inputs frame.inputs)
    ++ (member_steps levels_step (group_member key_outputs frame.outputs) ++ unload_steps frame))

abbrev pub first_steps : Frame → List Step
first_steps frame =
    step.Due (load_ends frame.chains).tokens
    ∷ (member_steps bits_step (group_member key_inputs frame.inputs)
    ++ step.Due (first_ends frame).tokens
    ∷ (member_steps bits_step (load_members frame.chains) ++ last_steps frame))

abbrev pub pair_steps : Frame → List Step
pair_steps frame = member_steps bits_step (load_members frame.chains) ++ first_steps frame

-- what a pair reads as: its label, and then its steps
abbrev pub read_pair : Frame → ℕ → List Token → Outcome Flat
read_pair frame number tokens =
    onward (read_fixed (pair_begins frame number).tokens tokens) (λ passed. read_steps (pair_steps frame))
