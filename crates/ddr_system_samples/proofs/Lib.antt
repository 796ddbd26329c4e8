pub mod OneOpen
