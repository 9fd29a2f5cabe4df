-- What is clamped, repeated, omitted and forced, and the delays that follow.
use Rattle.std.specs.Prelude.{ℕ, ◌-◌, Bool, cond, ◌&&◌, nat_le, nat_lt}
use Rattle.format.specs.Modes.{off_quincunx}
use Rattle.codec.specs.declared.modes.Above.{Above}
use Rattle.codec.specs.declared.modes.Above.TheVariants.{Reset, Pending}
use Rattle.codec.specs.declared.modes.Geometry.{Geometry}
use Rattle.codec.specs.declared.modes.LineModes.{LineModes}
use Rattle.codec.specs.declared.modes.PelMode.{PelMode}
use Rattle.codec.specs.declared.modes.PelMode.TheVariants.{Clamped, Repeated, Subsampled, Forced, Burst, Adaptive}

-- pels 1 to 3 of a line are clamped, pels 1 to 7 are the burst
abbrev pub last_clamped : ℕ
last_clamped = 3

abbrev pub last_burst : ℕ
last_burst = 7

abbrev pub pel_mode : LineModes → Bool → ℕ → PelMode
pel_mode l subsampled p =
    cond (nat_le p last_clamped) Clamped
    (cond l.repeated Repeated
    (cond (subsampled && off_quincunx l.number p) Subsampled
    (cond l.forced Forced
    (cond (nat_le p last_burst) Burst Adaptive))))

-- luminance follows burst and colour
abbrev pub pel_is_luminance : Geometry → ℕ → Bool
pel_is_luminance g p = nat_lt g.colour p

-- how far picture and background lag behind the pel in work: by a line; but in the first line of a field,
-- where nothing enters them, by the pels of that line that were worked so far
abbrev pub lag : Geometry → Above → ℕ → ℕ
lag g Reset p = p - 1
lag g (Pending f) p = g.width
