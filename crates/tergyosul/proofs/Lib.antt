mod ChainLaws
mod ConvertingLaws
mod JoiningLaws
mod NumberLaws
mod RoomLaws
mod WritingLaws
