-- The days of the calendar, counted from 31 December 1969, are those of jiff.
use Rattle.std.proofs.Common.{◌≡◌, ℕ, zero, suc, ◌+◌, ◌*◌, ◌/◌, ◌%◌, ◌<◌, ◌≤◌, inl, inr, refl, sym, ◌∙◌, ap, arith, ℤ, pos, negsuc, ◌+ℤ◌, ◌*ℤ◌, ◌≤ℤ◌, neg_ℤ}
use Rattle.std.proofs.lemmas.Bool.{cases_lt, le-ltb, lt-ltb}
use Rattle.jiff.specs.Types.{Date, DateTime}
use Rattle.jiff.specs.Words.{civil_nanos, days_in_month, epoch_day, nanos_of_seconds, time_nanos}
use Rattle.jiff.proofs.Family.{civil_nanos-parts, days_from_civil-day, days_from_civil-max, days_from_civil-next_month, days_from_civil-next_year, epoch_day_injective, time_nanos_bound}
use Rattle.jiff.proofs.SpanFacts.{signed_arith}
use Rattle.jiff_core.specs.Calendar.{days_from_civil}
use Rattle.clr_print.specs.declared.moments.ClockFace.{ClockFace}
use Rattle.clr_print.specs.Moments.{Day, day_after, day_before, face_at, local_seconds, next_day}

-- a day of the calendar, with its number from 31 December 1969
record IsDay (n : ℕ) (d : Day) : Type 0 where
  year : d.year ≤ 9999
  month : (1 ≤ d.month) × (d.month ≤ 12)
  day : (1 ≤ d.day) × (d.day ≤ days_in_month (pos d.year) d.month)
  number : days_from_civil (pos d.year) d.month d.day +ℤ pos 1 ≡ pos n

month_ends : (y : ℤ) (m : ℕ) → (1 ≤ days_in_month y m) × (days_in_month y m ≤ 31)
month_ends y m = (grind arith, grind arith)

day_zero : days_from_civil (pos 1970) 1 1 ≡ pos 0
unfolding days_from_civil
day_zero = omega (arith, signed_arith)

first : IsDay 0 day_before
first = record {
  year = omega arith;
  month = (omega arith, omega arith);
  day = (omega arith, omega arith);
  number = sym (days_from_civil-next_year (pos 1969) (pos 1970) (omega (arith, signed_arith)) refl) ∙ day_zero;
}

-- the next day of the month
in_month : (n : ℕ) (d : Day) → d.day < days_in_month (pos d.year) d.month → IsDay n d → IsDay (suc n) (record { year = d.year; month = d.month; day = d.day + 1 })
in_month n d before h = record {
  year = h.year;
  month = h.month;
  day = (omega arith, omega arith);
  number = omega (arith, signed_arith, h.number, days_from_civil-day (pos d.year) d.month d.day (d.day + 1) h.day.0 (omega arith));
}

-- the first of the next month
in_year : (n : ℕ) (d : Day) → days_in_month (pos d.year) d.month ≤ d.day → d.month < 12 → IsDay n d → IsDay (suc n) (record { year = d.year; month = d.month + 1; day = 1 })
in_year n d last before h = record {
  year = h.year;
  month = (omega arith, omega arith);
  day = (omega arith, (month_ends (pos d.year) (d.month + 1)).0);
  number = omega (arith, signed_arith, h.number, days_from_civil-next_month (pos d.year) d.month d.day h.month.0 (omega (arith, h.day)));
}

last_number : (y n : ℕ) → n < 50000 → y ≤ 9999 → days_from_civil (pos y) 12 31 +ℤ pos 1 ≡ pos n → y < 9999
last_number y n near le e = elim (cases_lt y 9999) [
  | inl h ↦ h
  | inr h ↦
      let last : y ≡ 9999 = omega arith in
      let far : days_from_civil (pos 9999) 12 31 +ℤ pos 1 ≡ pos n = rw last at e in
      absurd (omega (arith, signed_arith, far, days_from_civil-max))
]

-- New Year's Day
after_year : (n : ℕ) (d : Day) → n < 50000 → days_in_month (pos d.year) d.month ≤ d.day → 12 ≤ d.month → IsDay n d → IsDay (suc n) (record { year = d.year + 1; month = 1; day = 1 })
after_year n d near last end h =
    let december : d.month ≡ 12 = omega (arith, h.month) in
    let whole : days_in_month (pos d.year) d.month ≡ 31 = ap (days_in_month (pos d.year)) december in
    let silvester : d.day ≡ 31 = omega (arith, h.day) in
    let number : days_from_civil (pos d.year) 12 31 +ℤ pos 1 ≡ pos n = rw (december, silvester) at h.number in
    record {
      year = omega (arith, last_number d.year n near h.year number);
      month = (omega arith, omega arith);
      day = (omega arith, omega arith);
      number = omega (arith, signed_arith, number, days_from_civil-next_year (pos d.year) (pos (d.year + 1)) (omega (arith, signed_arith)) (omega (arith, signed_arith)));
    }

next : (n : ℕ) (d : Day) → n < 50000 → IsDay n d → IsDay (suc n) (next_day d)
next n d near h = elim (cases_lt d.day (days_in_month (pos d.year) d.month)) [
  | inl before ↦ rw (lt-ltb d.day (days_in_month (pos d.year) d.month) before) (in_month n d before h)
  | inr last ↦ rw (le-ltb d.day (days_in_month (pos d.year) d.month) last) (elim (cases_lt d.month 12) [
    | inl before ↦ rw (lt-ltb d.month 12 before) (in_year n d last before h)
    | inr end ↦ rw (le-ltb d.month 12 end) (after_year n d near last end h)
  ])
]

days : (n : ℕ) → n ≤ 50000 → IsDay n (day_after n)
unfolding day_after
days zero near = first
days (suc n) near = next n (day_after n) (omega arith) (days n (omega arith))

-- a date of this number is that day
same_day : (n : ℕ) → n ≤ 50000 → (a : Date) → epoch_day a +ℤ pos 1 ≡ pos n
    → (a.year ≡ pos (Day.year (day_after n))) × (a.month ≡ Day.month (day_after n)) × (a.day ≡ Day.day (day_after n))
same_day n near a e =
    let h = days n near in
    let b : Date = record {
      year = pos (Day.year (day_after n));
      month = Day.month (day_after n);
      day = Day.day (day_after n);
      year_in = (omega (arith, signed_arith), omega (arith, signed_arith, h.year));
      month_in = h.month;
      day_in = h.day;
    } in
    epoch_day_injective a b (omega (arith, signed_arith, e, h.number))

local_is : (seconds : ℕ) (offset : ℤ) → neg_ℤ (pos 720) ≤ℤ offset → pos (local_seconds seconds offset) ≡ pos 86400 +ℤ pos seconds +ℤ offset *ℤ pos 60
local_is seconds (pos m) low = omega (arith, signed_arith)
local_is seconds (negsuc m) low = omega (arith, signed_arith)

-- the number of the day and the nanoseconds of the day, of a moment in local time
parts : (day : ℤ) (nanos local : ℕ) → nanos < 86_400_000_000_000 → day *ℤ pos 86_400_000_000_000 +ℤ pos nanos +ℤ pos 86_400_000_000_000 ≡ pos local *ℤ pos 1_000_000_000
    → (day +ℤ pos 1 ≡ pos (local / 86400)) × (nanos ≡ local % 86400 * 1_000_000_000)
parts day nanos local below e = (omega (arith, signed_arith), omega (arith, signed_arith))

clock : (hour minute second subsec local : ℕ) → minute < 60 → second < 60 → subsec < 1_000_000_000
    → (hour * 3600 + minute * 60 + second) * 1_000_000_000 + subsec ≡ local % 86400 * 1_000_000_000
    → (hour ≡ local % 86400 / 3600) × (minute ≡ local % 3600 / 60) × (second ≡ local % 60)
clock hour minute second subsec local m s n e = (omega arith, omega arith, omega arith)

-- what a local time shows is the face of its seconds
pub record IsFace (shown : DateTime) (face : ClockFace) : Type 0 where
  pub year : shown.date.year ≡ pos face.year
  pub month : shown.date.month ≡ face.month
  pub day : shown.date.day ≡ face.day
  pub hour : shown.time.hour ≡ face.hour
  pub minute : shown.time.minute ≡ face.minute
  pub second : shown.time.second ≡ face.second
  pub few_years : face.year < 10000
  pub few_days : face.day < 100

pub local_face : (seconds : ℕ) (offset : ℤ) (shown : DateTime) → seconds ≤ 4102444799 → neg_ℤ (pos 720) ≤ℤ offset → offset ≤ℤ pos 840
    → civil_nanos shown ≡ nanos_of_seconds (pos seconds) +ℤ nanos_of_seconds (offset *ℤ pos 60)
    → IsFace shown (face_at (local_seconds seconds offset))
local_face seconds offset shown most low high e =
    let local = local_seconds seconds offset in
    let is = local_is seconds offset low in
    let split = parts (epoch_day shown.date) (time_nanos shown.time) local (time_nanos_bound shown.time)
    (omega (arith, signed_arith, e, is, civil_nanos-parts shown)) in
    let near : local / 86400 ≤ 50000 = omega (arith, signed_arith, is) in
    let day = days (local / 86400) near in
    let date = same_day (local / 86400) near shown.date split.0 in
    let time = clock shown.time.hour shown.time.minute shown.time.second shown.time.subsec_nanosecond local shown.time.minute_in shown.time.second_in shown.time.subsec_in split.1 in
    record { year = date.0; month = date.1; day = date.2; hour = time.0; minute = time.1; second = time.2; few_years = omega (arith, day.year); few_days = omega (arith, day.day, month_ends (pos (Day.year (day_after (local / 86400)))) (Day.month (day_after (local / 86400)))) }
