-- The ranges of numbers, as the standards give them: IEC 62386-102 (control gear) and IEC 62386-103 (control devices); and those that are
-- document 01's own.
use Rattle.std.specs.Prelude.{ℕ, ◌-◌, ◌^◌}

-- 64 short addresses of 6 bits, of control gear (102) and of control devices (103)
unfoldable pub last_short_address : ℕ
last_short_address = 2 ^ 6 - 1

-- 16 groups and 16 scenes of control gear (102)
unfoldable pub last_group : ℕ
last_group = 16 - 1

unfoldable pub last_scene : ℕ
last_scene = 16 - 1

-- levels of 8 bits, of which 255 is MASK (102)
unfoldable pub last_level : ℕ
last_level = 2 ^ 8 - 1 - 1

-- 32 instance numbers of 5 bits, 32 instance groups and 32 instance types (103)
unfoldable pub last_instance : ℕ
last_instance = 2 ^ 5 - 1

unfoldable pub last_instance_group : ℕ
last_instance_group = 32 - 1

unfoldable pub last_instance_type : ℕ
last_instance_type = 32 - 1

-- event information of 10 bits (103)
unfoldable pub last_event_information : ℕ
last_event_information = 2 ^ 10 - 1

-- "A is 0 to 255"
abbrev pub last_adapter : ℕ
last_adapter = 255

-- document 02, §6: "P 0 to 255"
abbrev pub last_party : ℕ
last_party = 255

-- document 02, §1: "days are mon, tue, wed, thu, fri, sat, sun"
abbrev pub week_days : ℕ
week_days = 7

-- "A name has 1 to 48 bytes"
abbrev pub longest_name : ℕ
longest_name = 48
