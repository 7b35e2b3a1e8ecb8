-- What is written for some entries, by evaluation: the examples of document 02, §7, and of what settles it.
use Rattle.std.specs.Prelude.{Some}
use Prim.Native.Nat.{ℕ}
use mathlib.Core.Path.{◌≡◌, refl}
use mathlib.Core.List.{List}
use lib.IntN.{pos, negsuc}
use Rattle.text.specs.Literal.{ascii}
use Rattle.text.specs.Split.{split}
use Rattle.text.specs.Bits.{bits_from}
use Rattle.days.specs.Days.{has_day, every_day, days_of}
use Rattle.model.specs.declared.Name.{Name}
use Rattle.model.specs.declared.Trigger.{Trigger}
use Rattle.model.specs.declared.Condition.{Condition}
use Rattle.model.specs.declared.Power.{Power}
use Rattle.model.specs.declared.Event.{Event}
use Rattle.model.specs.declared.Selector.{Selector}
use Rattle.model.specs.declared.SolarEvent.{SolarEvent}
use Rattle.model.specs.declared.LampProperty.{LampProperty}
use Rattle.model.specs.declared.Comparison.{Comparison}
use Rattle.model.specs.declared.Value.{Value}
use Rattle.model.specs.declared.Reading.{Reading}
use Rattle.writing.specs.Pieces.{decimal, decimal_from, two_digits, three_digits, spelled_time, spelled_duration, spelled_sign, spelled, spaced}
use Rattle.writing.specs.Write.{event_pieces, commas, day_if_in, days_pieces, on_pieces, offset_pieces, adapter_pieces, ref_pieces, device_pieces, type_pieces, selector_pieces, name_pieces, bound_pieces, literal_pieces, delta_pieces, reading_pieces, value_pieces, trigger_pieces, condition_pieces}

abbrev written : Trigger → List ℕ
written x = spaced (trigger_pieces 0 (λ (n : Name). ascii "x") x)

abbrev written_if : Condition → List ℕ
written_if y = spaced (condition_pieces 0 (λ (n : Name). ascii "x") y)

lamp-on-one : written (Trigger.LampTurns (record { adapter = 1; number = 5 }) Power.On) ≡ ascii "lamp ( 5 , adapter = 1 ) turns on"
unfolding spaced spelled spelled_sign decimal decimal_from trigger_pieces adapter_pieces ref_pieces
lamp-on-one = refl

group-of-type : written (Trigger.InputEvent (Selector.Group 1 5 (Some 4)) (Event.Raw 7)) ≡ ascii "input ( group = 5 , type = 4 , adapter = 1 ) is event ( data = 7 )"
unfolding spaced spelled spelled_sign decimal decimal_from trigger_pieces selector_pieces type_pieces adapter_pieces event_pieces
group-of-type = refl

device-changed : written (Trigger.InputDeviceManualConfigChanged (record { adapter = 0; number = 5 })) ≡ ascii "input device ( dev = 5 ) manual config changed"
unfolding spaced spelled spelled_sign decimal decimal_from trigger_pieces adapter_pieces device_pieces split
device-changed = refl

lower-end : written (Trigger.AtSolar SolarEvent.Sunset (negsuc 2147483647) (record { sum = 17 })) ≡ ascii "at sunset - 2147483.648s on mon , fri"
unfolding spaced spelled spelled_sign spelled_duration decimal decimal_from three_digits two_digits trigger_pieces bound_pieces offset_pieces on_pieces days_pieces day_if_in commas has_day every_day days_of bits_from
lower-end = refl

longest : written (Trigger.Every 4294967295) ≡ ascii "every 4294967.295s"
unfolding spaced spelled spelled_duration decimal decimal_from three_digits two_digits trigger_pieces
longest = refl

last_in_ms : written (Trigger.Every 1000000000) ≡ ascii "every 1000000000ms"
unfolding spaced spelled spelled_duration decimal decimal_from trigger_pieces
last_in_ms = refl

five-past-seven : written (Trigger.AtTime 425 (record { sum = 127 })) ≡ ascii "at 07:05"
unfolding spaced spelled spelled_time two_digits trigger_pieces on_pieces every_day days_of bits_from
five-past-seven = refl

below-five : written_if (Condition.LampCompare (record { adapter = 0; number = 1 }) LampProperty.Level Comparison.Eq (Value.Literal (negsuc 4))) ≡ ascii "lamp ( 1 ) . level == - 5"
unfolding spaced spelled spelled_sign decimal decimal_from condition_pieces adapter_pieces ref_pieces value_pieces literal_pieces
below-five = refl

plus-zero : written_if (Condition.LampCompare (record { adapter = 0; number = 1 }) LampProperty.Cct Comparison.Ge (Value.Reads (Reading.Var (record { start = 0; length = 1 })) (Some (pos 0)))) ≡ ascii "lamp ( 1 ) . cct >= var ( \"x\" ) + 0"
unfolding spaced spelled spelled_sign decimal decimal_from condition_pieces adapter_pieces ref_pieces name_pieces value_pieces reading_pieces delta_pieces
plus-zero = refl

every_day_lem : written_if (Condition.DayIn (record { sum = 127 })) ≡ ascii "day in mon , tue , wed , thu , fri , sat , sun"
unfolding spaced spelled spelled_sign condition_pieces days_pieces day_if_in commas split has_day
every_day_lem = refl
