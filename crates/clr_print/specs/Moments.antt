-- HOW A MOMENT IS PRINTED, at an offset from UTC in whole minutes: `1970-01-01 00:01:44 +00:00`.
use Rattle.std.specs.Prelude.{ℕ, zero, suc, ◌+◌, ◌-◌, ◌*◌, ◌/◌, ◌%◌, nat_lt, if◌then◌else◌, List}
use Rattle.std.specs.Prelude.{[], ◌∷◌, ◌++◌, ℤ, pos, negsuc, unsigned_abs}
use Rattle.jiff.specs.Words.{days_in_month}
use Rattle.clr_print.specs.declared.moments.ClockFace.{ClockFace}

-- a day of the calendar
pub record Day : Type 0 where
  pub year : ℕ
  pub month : ℕ
  pub day : ℕ

-- the last day before the moments begin
abbrev pub day_before : Day
day_before = record { year = 1969; month = 12; day = 31 }

-- the next day: of the same month, otherwise the first of the next month, otherwise New Year's Day
abbrev pub next_day : Day → Day
next_day d =
    if nat_lt d.day (days_in_month (pos d.year) d.month)
    then record { year = d.year; month = d.month; day = d.day + 1 }
    else if nat_lt d.month 12 then record { year = d.year; month = d.month + 1; day = 1 }
    else record { year = d.year + 1; month = 1; day = 1 }

-- the day this many days after 31 December 1969
unfoldable pub day_after : ℕ → Day
day_after zero = day_before
day_after (suc n) = next_day (day_after n)

-- the seconds that a clock at the offset counts from the beginning of that day
abbrev pub local_seconds : ℕ → ℤ → ℕ
local_seconds seconds (pos minutes) = 86400 + seconds + 60 * minutes
local_seconds seconds (negsuc minutes) = 86400 + seconds - 60 * (minutes + 1)

-- what the calendar and the clock show where this many seconds of local time have passed
abbrev pub face_at : ℕ → ClockFace
face_at local = let d = day_after (local / 86400) in
    record {
      year = d.year;
      month = d.month;
      day = d.day;
      hour = local % 86400 / 3600;
      minute =
          local % 3600 / 60;
      second = local % 60;
    }

-- a number below 100 in two digits
abbrev pub two_digits : ℕ → List ℕ
two_digits n = (48 + n / 10) ∷ (48 + n % 10) ∷ []

-- `1970-01-01 00:01:44`
abbrev pub face_text : ClockFace → List ℕ
face_text face =
    two_digits (face.year / 100) ++ two_digits (face.year % 100) ++ 45 ∷ two_digits face.month ++ 45
    ∷ two_digits face.day
    ++ 32 ∷ two_digits face.hour ++ 58 ∷ two_digits face.minute ++ 58 ∷ two_digits face.second

-- `+`, also for 0, or `-`
abbrev pub sign_byte : ℤ → ℕ
sign_byte (pos minutes) = 43
sign_byte (negsuc minutes) = 45

-- `+00:00`
abbrev pub offset_text : ℤ → List ℕ
offset_text offset = sign_byte offset ∷ two_digits (unsigned_abs offset / 60) ++ 58
    ∷ two_digits (unsigned_abs offset % 60)

unfoldable pub moment_text : ℕ → ℤ → List ℕ
moment_text seconds offset = face_text (face_at (local_seconds seconds offset)) ++ 32
    ∷ offset_text offset
