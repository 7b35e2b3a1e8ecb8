-- The arguments of `input(` and the instance types by number.
use Rattle.std.specs.Prelude.{ℕ}

-- an argument's slot; 0 is none
abbrev pub no_slot : ℕ
no_slot = 0

abbrev pub dev_slot : ℕ
dev_slot = 1

abbrev pub inst_slot : ℕ
inst_slot = 2

abbrev pub group_slot : ℕ
group_slot = 3

abbrev pub type_slot : ℕ
type_slot = 4

abbrev pub adapter_slot : ℕ
adapter_slot = 5

-- "button 1, absolute 2, occupancy 3, light 4 (IEC 62386-301 to -304)"; no word stands for 0
abbrev pub no_type : ℕ
no_type = 0

abbrev pub push_button : ℕ
push_button = 1

abbrev pub absolute_input : ℕ
absolute_input = 2

abbrev pub occupancy_sensor : ℕ
occupancy_sensor = 3

abbrev pub light_sensor : ℕ
light_sensor = 4
