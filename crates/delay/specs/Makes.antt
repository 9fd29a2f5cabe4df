-- What the two makes of a delay memory hold, the newest first.
use Rattle.std.specs.Prelude.{◌≡◌, List, drop, ℤ}
use Rattle.delay.specs.declared.banks.Banks.{Banks}
use Rattle.delay.specs.declared.ring.Ring.{Ring}
use Rattle.delay.specs.Rotated.{rotated}
use Rattle.delay.specs.Woven.{woven}

-- what a ring holds
abbrev pub in_ring : {X : Type 0} → Ring X → List X
in_ring r = rotated r.next r.cells.now

-- the pels of four banks, in the order in which their cells are written
abbrev pub pels : Banks → List ℤ
pels b = woven b.rows b.first.now b.second.now b.third.now b.fourth.now

-- what banks hold
abbrev pub in_banks : Banks → List ℤ
in_banks b = rotated b.next (pels b)

-- the same cells are used, and those beyond them are as they were
pub record SameBeyond (a b : Banks) : Type 0 where
  pub rows : b.rows ≡ a.rows
  pub first : drop a.rows b.first.now ≡ drop a.rows a.first.now
  pub second : drop a.rows b.second.now ≡ drop a.rows a.second.now
  pub third : drop a.rows b.third.now ≡ drop a.rows a.third.now
  pub fourth : drop a.rows b.fourth.now ≡ drop a.rows a.fourth.now
