-- The ranges of Limits.antt are document 01's.
use mathlib.Core.Path.{◌≡◌, refl}
use Rattle.model.specs.Limits.{last_short_address, last_group, last_scene, last_level, last_instance, last_instance_group, last_instance_type, last_event_information, last_adapter}

pub record Numbers : Type 0 where
  -- "Ids: lamp and device 0 to 63, group 0 to 15." "DEV is an input device's name or address 0 to 63."
  pub addresses : last_short_address ≡ 63
  pub groups : last_group ≡ 15
  -- "A is 0 to 255"
  pub adapters : last_adapter ≡ 255
  -- "inst=0..31, group=0..31, type=0..31"
  pub instances : last_instance ≡ 31
  pub instance_groups : last_instance_group ≡ 31
  pub instance_types : last_instance_type ≡ 31
  -- "scene (0..15", ".level crosses above or below 0..254", ".light crosses above or below 0..1023", "event(data=0..1023)"
  pub scenes : last_scene ≡ 15
  pub levels : last_level ≡ 254
  pub event_information : last_event_information ≡ 1023

pub numbers : Numbers
unfolding last_short_address last_group last_scene last_level last_instance last_instance_group last_instance_type last_event_information
numbers =
    record {
      addresses = refl;
      groups = refl;
      adapters = refl;
      instances = refl;
      instance_groups = refl;
      instance_types = refl;
      scenes = refl;
      levels = refl;
      event_information = refl;
    }
