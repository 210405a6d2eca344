-- What only proofs of code cite: what is found of a defect of an instance that ends with what a code says.
use Rattle.std.specs.Prelude.{ℕ, ◌≡◌, ◌≤◌, Bool, true}
use Rattle.ca_net.specs.declared.trit.Trit.{Trit}
use Rattle.ca_flat.specs.Chip.{Chip, outputs_at}
use Rattle.ca_sweep.specs.declared.codes.Goods.{Goods}
use Rattle.ca_sweep.specs.declared.seen.Flips.{Flips}
use Rattle.ca_sweep.specs.declared.seen.Seen.{Seen}
use Rattle.ca_sweep.specs.Seen.{IsSeen}
use Rattle.ca_sweep.specs.code.Found.{reported}
use Rattle.ca_sweep.specs.code.Rows.{AreGoodsAt, AreFlipsOfCode, IsKnownCode}

-- where the flips by the code are seen, reported
pub record IsSeenCoded (chip : Chip) (goods : ℕ → Trit) (u code : ℕ) (answer : Seen) : Type 0 where
  pub few : outputs_at chip u ≤ 2
  pub ends : Goods
  pub goods_are : AreGoodsAt chip goods u ends
  pub flips : Flips
  pub flips_are : AreFlipsOfCode ends code flips
  pub known : Bool
  pub known_is : known ≡ true → IsKnownCode code (outputs_at chip u)
  pub seen : Seen
  pub seen_is : IsSeen chip goods u flips seen
  pub is : answer ≡ reported known seen
