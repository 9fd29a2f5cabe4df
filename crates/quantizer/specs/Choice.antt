-- Which characteristic two bits choose.
use Rattle.std.specs.Prelude.{Bool, true, false}
use Rattle.quantizer.specs.declared.characteristic.Characteristic.{Characteristic}
use Rattle.quantizer.specs.declared.characteristic.Characteristic.TheVariants.{Q0, Q1, Q2, Q3}

-- the bits QC1 and QC2: 00 chooses Q0, 01 Q1, 10 Q2 and 11 Q3
abbrev pub chosen : Bool → Bool → Characteristic
chosen false false = Q0
chosen false true = Q1
chosen true false = Q2
chosen true true = Q3
