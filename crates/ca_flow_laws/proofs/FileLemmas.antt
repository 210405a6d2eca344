-- What is reported of one file: it is too long, or a fault of its text.
use Rattle.std.proofs.Common.{ℕ, ◌≡◌, ◌≤◌, ◌<◌, ◌+◌, ◌⊎◌, ◌∙◌, inl, inr, refl, sym, subst, arith, List, length}
use Rattle.std.proofs.Common.{Option, Some, None}
use Rattle.std.specs.Prelude.{IsSomeAnd}
use Rattle.ca_store.specs.Store.{Files}
use Rattle.ca_store.specs.ReadFault.{IsPastLimit}
use Rattle.ca_fault.specs.declared.fault.Fault.{Fault}
use Rattle.ca_fault.specs.declared.fault.Fault.TheVariants.{TooLong, StoreFailed, NoMemory}
use Rattle.ca_load.specs.Files.{OfFile, IsReadCause}
use Rattle.ca_flow_laws.specs.Same.{IsInputFault}

-- of two causes of which each is one, and never both hold, one holds
pub one_of : {F : Type 0} (Same : F → F → Type 0) (A B : F → Type 0) → ((f g : F) → A f → A g → Same f g) → ((f g : F) → B f → B g → Same f g)
    → ((f g : F) → A f → B g → ⊥) → (f g : F) → A f ⊎ B f → A g ⊎ B g → Same f g
one_of Same A B one other never f g (inl here) (inl there) = one f g here there
one_of Same A B one other never f g (inl here) (inr there) = absurd (never f g here there)
one_of Same A B one other never f g (inr here) (inl there) = absurd (never g f there here)
one_of Same A B one other never f g (inr here) (inr there) = other f g here there

-- what is reported of bytes: there are too many, or a fault of them
abbrev pub AtBytes : ℕ → List ℕ → (Fault → List ℕ → Type 0) → Fault → List ℕ → Type 0
AtBytes limit name Reports fault bytes =
    ((limit < length bytes) × (fault ≡ TooLong name (limit + 1))) ⊎ ((length bytes ≤ limit) × Reports fault bytes)

-- what is reported of a file
abbrev pub AtFile : ℕ → List ℕ → (Fault → List ℕ → Type 0) → Option (List ℕ) → Fault → Type 0
AtFile limit name Reports file fault = IsSomeAnd file (AtBytes limit name Reports fault)

module _ (limit : ℕ) (name : List ℕ) (Reports : Fault → List ℕ → Type 0) where
  -- it is one fault, where the bytes have one
  pub one_at_file : ((bytes : List ℕ) (fault other : Fault) → Reports fault bytes → Reports other bytes → fault ≡ other)
      → (file : Option (List ℕ)) (fault other : Fault) → AtFile limit name Reports file fault → AtFile limit name Reports file other → fault ≡ other
  one_at_file one None fault other here there = absurd here
  one_at_file one (Some bytes) fault other (inl here) (inl there) = here.1 ∙ sym there.1
  one_at_file one (Some bytes) fault other (inl here) (inr there) =
      let past = here.0 in let within = there.0 in absurd (omega (arith, past, within))
  one_at_file one (Some bytes) fault other (inr here) (inl there) =
      let past = there.0 in let within = here.0 in absurd (omega (arith, past, within))
  one_at_file one (Some bytes) fault other (inr here) (inr there) = one bytes fault other here.1 there.1

  -- a file that is read has none
  pub none_of_read : (Reads : List ℕ → Type 0) (file : Option (List ℕ)) (fault : Fault) → ((bytes : List ℕ) → Reports fault bytes → Reads bytes → ⊥)
      → AtFile limit name Reports file fault → IsSomeAnd file (λ bytes. (length bytes ≤ limit) × Reads bytes) → ⊥
  none_of_read Reads None fault never reported reads = reported
  none_of_read Reads (Some bytes) fault never (inl reported) reads =
      let past = reported.0 in let within = reads.0 in omega (arith, past, within)
  none_of_read Reads (Some bytes) fault never (inr reported) reads = never bytes reported.1 reads.1

  -- the bytes that have it
  pub of_bytes : (file : Option (List ℕ)) (P : List ℕ → Type 0) (fault : Fault) → ((bytes : List ℕ) → P bytes → Reports fault bytes)
      → IsSomeAnd file (λ bytes. (length bytes ≤ limit) × P bytes) → AtFile limit name Reports file fault
  of_bytes None P fault next held = absurd held
  of_bytes (Some bytes) P fault next held = inr (held.0, next bytes held.1)

-- what is known of the store of a file, where it has these bytes, or isn't there
module _ (files : Option Files) (reported : Files) (are : files ≡ Some reported) (name : List ℕ) (file : Option (List ℕ)) (same : reported name ≡ file) where
  pub of_file : (limit : ℕ) (P : List ℕ → Type 0) → OfFile files name limit P → IsSomeAnd file (λ bytes. (length bytes ≤ limit) × P bytes)
  of_file limit P held = subst (λ there. IsSomeAnd there (λ bytes. (length bytes ≤ limit) × P bytes)) same (held reported are)

  past_limit : (limit : ℕ) → IsPastLimit files name limit → IsSomeAnd file (λ bytes. limit < length bytes)
  past_limit limit held = subst (λ there. IsSomeAnd there (λ bytes. limit < length bytes)) same (held reported are)

  module _ (limit : ℕ) (Reports : Fault → List ℕ → Type 0) where
    too_long : (file : Option (List ℕ)) → IsSomeAnd file (λ bytes. limit < length bytes) → AtFile limit name Reports file (TooLong name (limit + 1))
    too_long None past = absurd past
    too_long (Some bytes) past = inl (past, refl)

    -- why it could not be read
    pub of_read : (before after : ℕ) (fault : Fault) → IsInputFault fault → IsReadCause name files limit before after fault
        → AtFile limit name Reports file fault
    of_read before after (TooLong typed taken) is (typed_is, long) =
        let fault_is : TooLong typed taken ≡ TooLong name (limit + 1) = λ j. TooLong (typed_is j) (long.one_more j) in
        subst (AtFile limit name Reports file) (sym fault_is) (too_long file (past_limit limit long.past))
    of_read before after (StoreFailed typed) is cause = absurd is
    of_read before after NoMemory is cause = absurd is
    of_read before after fault is cause = absurd cause
