-- Chips that are alike have outputs of the same names, so that a log is the same to both; and what is reported of
-- the files of `diagnose` is one fault.
use Rattle.std.proofs.Common.{◌≡◌, ◌≤◌, ℕ, suc, Bool, List, [], ◌∷◌, ◌++◌, ◌⊎◌, inl, inr, length, refl, ap₂, subst, arith}
use Rattle.std.specs.Prelude.{Option, Some, None, Ok, Err, IsSomeAnd, slice_get, ◌&&◌, not, if◌then◌else◌}
use Rattle.std.specs.List.{flat_map}
use Rattle.ca_store.specs.Store.{Files}
use Rattle.ca_net.specs.declared.trit.Trit.{Trit}
use Rattle.ca_linked.specs.declared.parts.Body.{Body}
use Rattle.ca_linked.specs.declared.parts.Body.TheVariants.{Gate, Scan}
use Rattle.ca_linked.specs.declared.parts.Part.{Part}
use Rattle.ca_linked.specs.declared.parts.PortBit.{PortBit}
use Rattle.ca_linked.specs.Linked.{LinkedChip}
use Rattle.ca_outputs.specs.Outputs.{Output, pin_name, pin_outputs, part_outputs, observed_ports, observed_pins, names_of, output_names}
use Rattle.ca_link_laws.specs.Alike.{AreBodiesAlike, ArePartsAlike, AreAlike}
use Rattle.ca_link_laws.proofs.TraceLemmas.{on_path, one_trace}
use Rattle.ca_flat.specs.Chip as flat
use Rattle.ca_scan.specs.ChainFault.{AreAllChains}
use Rattle.ca_scan.proofs.AnswerLemmas.{one_answer}
use Rattle.ca_expected.specs.Expected.{AreExpected}
use Rattle.ca_log.specs.declared.record.LogRecord.{LogRecord}
use Rattle.ca_log.specs.LogText.{log_of}
use Rattle.ca_stil.specs.declared.chip.StilChip.{StilChip}
use Rattle.ca_stil_pairs.specs.File.{IsFileOf}
use Rattle.ca_fault.specs.declared.fault.Fault.{Fault}
use Rattle.ca_fault.specs.declared.fault.Fault.TheVariants as fault_
use Rattle.ca_load.specs.Files.{IsFileWith}
use Rattle.ca_patterns.specs.declared.patterns.TheConstants.{MAX_STIL}
use Rattle.ca_patterns.specs.Patterns.{IsStilCause}
use Rattle.ca_patterns.proofs.OneLemmas.{same_file, no_cause}
use Rattle.ca_diagnosing.specs.declared.logs.TheConstants.{MAX_LOG}
use Rattle.ca_diagnosing.specs.Diagnosing.{IsLogIn, IsBadLog, HasRight}
use Rattle.ca_diagnosing.proofs.OneLemmas.{one_bad}
use Rattle.ca_flow_laws.proofs.FileLemmas.{AtFile, one_of, one_at_file, none_of_read}
use Rattle.ca_flow_laws.proofs.OneLemmas.{AreOne}
use Rattle.ca_flow_laws.proofs.StilLemmas.{same_stil, ReportsStil, AtPatterns, patterns_also, one_patterns}

-- lists whose entries give the same give the same
flat_alike : {X : Type 0} (f g : X → List Output) (xs ys : List X) → length xs ≡ length ys
    → ((u : ℕ) (x y : X) → slice_get xs u ≡ Some x → slice_get ys u ≡ Some y → f x ≡ g y) → flat_map f xs ≡ flat_map g ys
flat_alike f g [] [] same each = refl
flat_alike f g [] (y ∷ ys) same each = absurd (omega (arith, same))
flat_alike f g (x ∷ xs) [] same each = absurd (omega (arith, same))
flat_alike f g (x ∷ xs) (y ∷ ys) same each =
    let rest : flat_map f xs ≡ flat_map g ys = flat_alike f g xs ys (omega (arith, same)) (λ u. each (suc u)) in
    ap₂ (λ (a b : List Output). a ++ b) (each 0 x y refl refl) rest

-- the output that a port bit is, if it is one, where these nets are on the path
abbrev observed_with : (ℕ → Bool) → PortBit → List Output
observed_with path port =
    if not port.is_input && not (path port.net) then record { name = port.name; net = port.net } ∷ [] else []

-- parts that are alike have the same output
pin_alike : (part other : Part) → ArePartsAlike part other → part_outputs part ≡ part_outputs other
pin_alike part other same = by part.body other.body same.body
  where
    name : pin_name part ≡ pin_name other
    name = ap₂ (λ (a b : List ℕ). a ++ 47 ∷ b) same.name same.data_pin

    by : (body another : Body) → AreBodiesAlike body another → pin_outputs (pin_name part) body ≡ pin_outputs (pin_name other) another
    by (Gate cell inputs outputs) (Gate others ins outs) alike = refl
    by (Gate cell inputs outputs) (Scan nets) alike = absurd alike
    by (Scan nets) (Gate cell inputs outputs) alike = absurd alike
    by (Scan nets) (Scan others) alike = λ j. record { name = name j; net = (alike j).d } ∷ []

module _ (chip also : LinkedChip) (alike : AreAlike chip also) where
  same_ports : observed_ports chip ≡ observed_ports also
  same_ports = λ j. flat_map (observed_with (λ net. on_path chip also alike net j)) (alike.ports j)

  same_pins : observed_pins chip ≡ observed_pins also
  same_pins = flat_alike part_outputs part_outputs chip.parts also.parts alike.same_parts
      (λ u part other at at_other. pin_alike part other (alike.parts u part other at at_other))

  -- the names of their outputs are the same
  pub same_outputs : output_names chip ≡ output_names also
  same_outputs = λ j. names_of (same_ports j ++ same_pins j)

-- chains and right patterns of a chip, for which a fault of the log is reported
pub record AtLog (stil log : List ℕ) (given : Files) (chip : LinkedChip) (fault : Fault) : Type 0 where
  pub chains : List (List ℕ)
  pub all : AreAllChains chip chains
  pub at : IsFileWith given stil MAX_STIL
      (HasRight chip chains (λ file. AtFile MAX_LOG log (IsBadLog chip file.expected) (given log) fault))

-- what is reported of the files of `diagnose`
abbrev pub AtDiagnosis : List ℕ → List ℕ → Files → LinkedChip → Fault → Type 0
AtDiagnosis stil log given chip fault = AtPatterns stil given chip fault ⊎ AtLog stil log given chip fault

module _ (chip also : LinkedChip) (are : AreOne chip also) where
  -- a log of one is a log of the other
  pub log_in_also : (expected : List (List Trit)) (logged : List LogRecord) (bytes : List ℕ) → IsLogIn chip expected logged bytes
      → IsLogIn also expected logged bytes
  log_in_also expected logged bytes is =
      subst (λ (names : List (List ℕ)). log_of names expected bytes ≡ Ok logged) (same_outputs chip also are.alike) is

  bad_also : (expected : List (List Trit)) (bytes : List ℕ) (fault : Fault) → IsBadLog chip expected fault bytes
      → IsBadLog also expected fault bytes
  bad_also expected bytes (fault_.Log row) bad =
      subst (λ (names : List (List ℕ)). log_of names expected bytes ≡ Err row) (same_outputs chip also are.alike) bad
  bad_also expected bytes fault bad = absurd bad

  at_log_also : (log : List ℕ) (given : Files) (fault : Fault) (expected : List (List Trit))
      → AtFile MAX_LOG log (IsBadLog chip expected) (given log) fault → AtFile MAX_LOG log (IsBadLog also expected) (given log) fault
  at_log_also log given fault expected at = by (given log) at
    where
      by : (file : Option (List ℕ)) → AtFile MAX_LOG log (IsBadLog chip expected) file fault
          → AtFile MAX_LOG log (IsBadLog also expected) file fault
      by None at = absurd at
      by (Some bytes) (inl long) = inl long
      by (Some bytes) (inr (within, bad)) = inr (within, bad_also expected bytes fault bad)

  log_also : (stil log : List ℕ) (given : Files) (fault : Fault) → AtLog stil log given chip fault → AtLog stil log given also fault
  log_also stil log given fault at = record {
    chains = at.chains;
    all = (one_trace chip also are.alike).chains at.chains at.all;
    at = by (given stil) at.at;
  }
    where
      by : (file : Option (List ℕ)) → IsSomeAnd file (λ bytes. (length bytes ≤ MAX_STIL)
          × HasRight chip at.chains (λ file. AtFile MAX_LOG log (IsBadLog chip file.expected) (given log) fault) bytes)
          → IsSomeAnd file (λ bytes. (length bytes ≤ MAX_STIL)
          × HasRight also at.chains (λ file. AtFile MAX_LOG log (IsBadLog also file.expected) (given log) fault) bytes)
      by None held = held
      by (Some bytes) (within, right) = (
        within,
        record {
          file = right.file;
          is = subst (λ (stil : StilChip). IsFileOf stil bytes right.file) (same_stil chip also are.alike at.chains) right.is;
          few = right.few;
          right = subst (λ (core : flat.Chip). AreExpected core right.file.pairs right.file.expected) are.core right.right;
          holds = at_log_also log given fault right.file.expected right.holds;
        },
      )

  pub diagnosis_also : (stil log : List ℕ) (given : Files) (fault : Fault) → AtDiagnosis stil log given chip fault
      → AtDiagnosis stil log given also fault
  diagnosis_also stil log given fault (inl at) = inl (patterns_also chip also are stil given fault at)
  diagnosis_also stil log given fault (inr at) = inr (log_also stil log given fault at)

-- of one chip it is one fault
module _ (chip : LinkedChip) (stil log : List ℕ) (given : Files) where
  -- the log's
  one_log : (fault other : Fault) → AtLog stil log given chip fault → AtLog stil log given chip other → fault ≡ other
  one_log fault other here there =
      by (given stil) here.at (subst (λ (list : List (List ℕ)). IsFileWith given stil MAX_STIL
      (HasRight chip list (λ file. AtFile MAX_LOG log (IsBadLog chip file.expected) (given log) other))) same there.at)
    where
      same : there.chains ≡ here.chains
      same = (one_answer chip).one_list there.chains here.chains there.all here.all

      by : (file : Option (List ℕ)) → IsSomeAnd file (λ bytes. (length bytes ≤ MAX_STIL)
          × HasRight chip here.chains (λ file. AtFile MAX_LOG log (IsBadLog chip file.expected) (given log) fault) bytes)
          → IsSomeAnd file (λ bytes. (length bytes ≤ MAX_STIL)
          × HasRight chip here.chains (λ file. AtFile MAX_LOG log (IsBadLog chip file.expected) (given log) other) bytes) → fault ≡ other
      by None one two = absurd one
      by (Some bytes) (within, one) (also, two) =
          let files = same_file chip here.chains here.all bytes two.file one.file two.is one.is in
          one_at_file MAX_LOG log (IsBadLog chip one.file.expected) (one_bad chip one.file.expected) (given log) fault other one.holds
          (subst (λ (expected : List (List Trit)). AtFile MAX_LOG log (IsBadLog chip expected) (given log) other) files.expected_are two.holds)

  -- right patterns have none
  never_both : (fault other : Fault) → AtPatterns stil given chip fault → AtLog stil log given chip other → ⊥
  never_both fault other here there =
      none_of_read MAX_STIL stil (ReportsStil chip)
      (HasRight chip there.chains (λ file. AtFile MAX_LOG log (IsBadLog chip file.expected) (given log) other)) (given stil) fault
      (λ bytes reported right.
      let same : reported.0 ≡ there.chains = (one_answer chip).one_list reported.0 there.chains reported.1.0 there.all in
      no_cause chip there.chains there.all bytes right.file right.is right.few right.right fault
      (subst (λ (list : List (List ℕ)). IsStilCause chip list fault bytes) same reported.1.1))
      here there.at

  pub one_diagnosis : (fault other : Fault) → AtDiagnosis stil log given chip fault → AtDiagnosis stil log given chip other → fault ≡ other
  one_diagnosis = one_of (λ (fault other : Fault). fault ≡ other) (AtPatterns stil given chip) (AtLog stil log given chip)
      (one_patterns chip stil given) one_log never_both
