pub mod Timeslot
