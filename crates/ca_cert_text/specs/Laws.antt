-- The text of a certificate has one reading.
use Rattle.std.specs.Prelude.{ℕ, ◌≡◌, ◌⊎◌, List, Result, Ok, Err}
use Rattle.ca_claim.specs.declared.certificate.Certificate.{Certificate}
use Rattle.ca_cert_text.specs.declared.fault.CertFault.{CertFault}
use Rattle.ca_cert_text.specs.declared.fault.CertFault.TheVariants as fault
use Rattle.ca_cert_text.specs.CertText.{certificate_text, IsWritable}
use Rattle.ca_cert_text.specs.CertFault.{IsFirstFaulty, Reads}

-- the text of a certificate reads as this certificate and as no other, and none of its lines is faulty
abbrev pub TextIsRead : Type 0
TextIsRead =
    (certificate : Certificate) (answer : Result Certificate CertFault) → IsWritable certificate
    → Reads (certificate_text certificate) answer → (answer ≡ Ok certificate) ⊎ (answer ≡ Err fault.NoMemory)

-- a text has at most one first faulty line
abbrev pub FaultyLineIsOne : Type 0
FaultyLineIsOne =
    (text : List ℕ) (one other : ℕ) → IsFirstFaulty text one → IsFirstFaulty text other → one ≡ other
