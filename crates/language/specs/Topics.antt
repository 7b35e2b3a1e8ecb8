-- The topics that the triggers of a rule name (document 02, §12).
use Rattle.std.specs.Prelude.{ℕ, List, [], ◌∷◌, ◌++◌, Option, None, Some}
use Rattle.topics.specs.Ranges.{topic_by}
use Rattle.model.specs.declared.Name.{Name}
use Rattle.model.specs.declared.Trigger.{Trigger}
use Rattle.model.specs.declared.Trigger.TheVariants.{InputEvent, InputOccupancy, InputLightCross, InputPositionChange, InputDevicePowerCycled, InputDeviceManualConfigChanged, AtTime, AtSolar, Every, LampTurns, LampLevelCross, GroupBecomes, SceneRecalled, DeviceOnline, HclOverride, TimerFires, ControllerStarts, ControllerBecomesActive, RuleFails, HttpTrigger, MqttMessage}

-- the topic that a trigger names, if it names one
unfoldable pub topic_name : Trigger → Option Name
topic_name (MqttMessage name) = Some name
topic_name (InputEvent s event) = None
topic_name (InputOccupancy r state) = None
topic_name (InputLightCross r way light) = None
topic_name (InputPositionChange r) = None
topic_name (InputDevicePowerCycled r) = None
topic_name (InputDeviceManualConfigChanged r) = None
topic_name (AtTime m days) = None
topic_name (AtSolar event offset days) = None
topic_name (Every ms) = None
topic_name (LampTurns r power) = None
topic_name (LampLevelCross r way level) = None
topic_name (GroupBecomes r state) = None
topic_name (SceneRecalled adapter scene) = None
topic_name (DeviceOnline r change) = None
topic_name (HclOverride target change) = None
topic_name (TimerFires name) = None
topic_name ControllerStarts = None
topic_name ControllerBecomesActive = None
topic_name (RuleFails name) = None
topic_name HttpTrigger = None

-- its bytes; written gives those of a name
unfoldable pub topic_of : (Name → List ℕ) → Trigger → List (List ℕ)
topic_of written x = topic_by written (topic_name x)

-- those of a list of triggers, in their order
unfoldable pub topics_of : (Name → List ℕ) → List Trigger → List (List ℕ)
topics_of written [] = []
topics_of written (x ∷ xs) = topic_of written x ++ topics_of written xs
